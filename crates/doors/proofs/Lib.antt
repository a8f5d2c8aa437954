-- The law that the proofs of this crate cite.
pub mod Places
