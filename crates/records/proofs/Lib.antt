pub mod Stores
pub mod Codes
pub mod Answers
