pub mod Renewals
