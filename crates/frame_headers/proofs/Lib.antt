pub mod Headers
pub mod Reached
