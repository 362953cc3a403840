pub mod RowSearch
pub mod Found
