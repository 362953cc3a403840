-- The proof of demand 3.
pub mod Numbers
pub mod Entries
pub mod Lawful
pub mod Run
pub mod Demand3
