-- What the contracts of `loads` cite besides the terms.
pub mod Lent
pub mod FirstRow
pub mod KitTests
