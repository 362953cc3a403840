-- For readers: Neighbours, Keys. The others serve these.
pub mod Reading
pub mod SamePlans
pub mod Neighbours
pub mod Keys
