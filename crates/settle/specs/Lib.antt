-- What the contracts of `settle` cite besides the terms, and the laws of settling by a lent table.
pub mod Ready
pub mod Call
pub mod One
pub mod Passed
pub mod Going
