pub mod Starts
pub mod States
pub mod Streams
pub mod StartsExactly
pub mod Reading
pub mod Steps
pub mod Writing
pub mod Laws
