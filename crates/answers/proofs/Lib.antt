-- The laws that the proofs of this crate cite.
pub mod Writing
pub mod Counted
pub mod Passed
pub mod Lent
