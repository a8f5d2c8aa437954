-- What the contracts of `rack` cite besides the terms.
pub mod Compared
pub mod Racked
pub mod Stepped
pub mod Joined
pub mod Rows
pub mod Flat
