pub mod Own
pub mod Assessed
