pub mod Computed
pub mod Examples
pub mod Explained
