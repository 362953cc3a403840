pub mod Refusals
pub mod Turns
pub mod ItemTurns
pub mod Judging
