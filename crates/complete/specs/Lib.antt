-- What the contracts of `complete` cite besides the terms, and the laws of its call.
pub mod Call
pub mod Passed
pub mod One
pub mod Grown
