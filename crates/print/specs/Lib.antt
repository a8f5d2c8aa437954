-- The lines of output, as lists of bytes.
pub mod Lines
pub mod Storing
