-- Laws that the proofs of `rack` and of the crates above it cite.
pub mod Weight
pub mod Loaded
pub mod Found
pub mod Joining
pub mod Held
pub mod Sorting
pub mod Tail
