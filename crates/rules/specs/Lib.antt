-- The rules of the relay: all of 01 and of what 02 adds as definitions, in the order in which they build on each other; behind Reasons, from Layout on, what
-- the laws say, as statements.
pub mod Sizes
pub mod Searches
pub mod Tables
pub mod Leases
pub mod Sessions
pub mod Decisions
pub mod Keepalives
pub mod Calls
pub mod Plans
pub mod Charges
pub mod Checks
pub mod Step
pub mod Runs
pub mod Demand3
pub mod Reasons
pub mod Layout
pub mod Bytes
pub mod Refusals
pub mod Effects
pub mod Prices
pub mod Laws
pub mod Explained
