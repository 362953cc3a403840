pub mod Items
pub mod Written
