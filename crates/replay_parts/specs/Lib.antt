pub mod Answers
pub mod Settled
pub mod Turns
pub mod ItemTurns
