pub mod Applied
pub mod Results
