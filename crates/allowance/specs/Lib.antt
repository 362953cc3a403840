-- The definitions that the contract of `level_now` and demand 3 cite.
pub mod Bucket
pub mod History
pub mod Lawful
pub mod Meter
