-- What the proofs of `grades` share.
pub mod Joins
pub mod Going
pub mod Counts
pub mod Listed
pub mod Ends
pub mod Graded
pub mod Whole
pub mod Laying
