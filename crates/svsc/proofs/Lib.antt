pub mod Writing
pub mod Peers
pub mod WrittenThenRead
pub mod ReadThenWritten
pub mod Copying
