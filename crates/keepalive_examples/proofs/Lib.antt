pub mod Keepalives
