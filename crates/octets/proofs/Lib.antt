pub mod Tests
pub mod Parts
pub mod Numbers
pub mod Stores
pub mod Equality
