-- What the calls promise together.
pub mod Completed
pub mod Promises
