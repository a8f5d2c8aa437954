-- Laws that belong to no one function.
pub mod Common
pub mod Entering
pub mod Laws
pub mod Flat
