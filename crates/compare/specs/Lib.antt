-- What the contracts of `compare` cite besides the terms.
pub mod Earlier
pub mod One
