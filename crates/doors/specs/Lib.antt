-- What the calls answer, in numbers, and that each answers one thing.
pub mod Answers
pub mod One
