-- A kit of n kinds is completed as one of 12 kinds, with weights in the place of costs.
pub mod Widen
pub mod Beside
pub mod Kinds
pub mod Resize
pub mod Weigh
pub mod Reach
pub mod Padded
