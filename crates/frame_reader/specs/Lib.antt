pub mod Answers
pub mod Bodies
