-- The laws that the proofs of this crate, and those of its callers, cite.
pub mod Runs
pub mod Digits
pub mod Lengths
