pub mod Split
pub mod Rows
