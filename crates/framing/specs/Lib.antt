pub mod Frames
pub mod Streams
pub mod Reading
pub mod Writing
pub mod StreamClaims
pub mod ReadingClaims
pub mod WritingClaims
