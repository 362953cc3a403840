-- Where a reader stands and goes, and what it reads on and on.
pub mod Places
pub mod Reading
