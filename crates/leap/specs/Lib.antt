-- What the contracts of `leap` cite besides the terms, and its laws.
pub mod Rounds
pub mod Way
