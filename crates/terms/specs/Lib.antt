-- The house's words as definitions. Nothing is proved here.
pub mod Load
pub mod Order
pub mod Swaps
pub mod Table
pub mod Settling
pub mod Flat
pub mod Limits
pub mod Refusals
pub mod Answers
pub mod Outcome
pub mod Decides
