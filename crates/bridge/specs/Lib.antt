-- The theory over lists of n counts, and its theorems in the house's words.
pub mod Instance
pub mod Carry
pub mod Loads
pub mod Rows
pub mod Reach
pub mod Tables
pub mod Settling
pub mod Regular
pub mod Sheet
pub mod Demands
pub mod Theorems
