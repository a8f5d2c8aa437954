pub mod Weights
pub mod Padded
mod Widened
