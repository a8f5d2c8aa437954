-- What the contracts of `sides` cite besides the terms.
pub mod Fine
