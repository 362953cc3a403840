-- The map of the connections (02, Item 7): bits of a number; the map, what is read of it, and what a call makes of it; calls and runs with the map
-- beside the tables; and, in Claims, what the laws say, as statements.
pub mod Bits
pub mod Maps
pub mod Steps
pub mod Claims
