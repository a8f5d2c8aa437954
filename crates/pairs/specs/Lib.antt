-- What the list of pairs holds, and what its makers hold on the way.
pub mod Pairs
pub mod Flat
pub mod Candidates
