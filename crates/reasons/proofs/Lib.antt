-- The laws of reasons as C has them. For readers: Told. The others serve the functions' proofs.
pub mod Told
pub mod Signed
pub mod Ways
