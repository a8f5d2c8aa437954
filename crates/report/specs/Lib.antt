-- What the program writes, as lists of bytes.
pub mod Report
pub mod One
