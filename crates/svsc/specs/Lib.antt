pub mod Messages
pub mod Writing
pub mod Copying
