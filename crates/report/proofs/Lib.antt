-- The laws that the proofs of this crate cite.
pub mod Rows
pub mod Parts
pub mod Writing
