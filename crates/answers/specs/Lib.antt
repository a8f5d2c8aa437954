-- What the program writes.
pub mod Answer
pub mod One
