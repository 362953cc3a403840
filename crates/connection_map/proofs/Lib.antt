pub mod Bits
pub mod States
pub mod Calls
pub mod Rebuilding
pub mod Runs
pub mod Partners
