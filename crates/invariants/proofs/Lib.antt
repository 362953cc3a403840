-- For readers: Runs. The others serve it.
pub mod Writings
pub mod DistinctIds
pub mod Ids
pub mod Spare
pub mod Timely
pub mod Ends
pub mod Runs
