pub mod Writes
pub mod Ways
