pub mod Parted
pub mod Turns
pub mod Words
pub mod Unnamed
