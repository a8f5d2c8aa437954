-- Laws over the definitions of `terms`.
pub mod Load
pub mod Signed
pub mod Order
pub mod Outcome
pub mod Decides
pub mod Walk
pub mod Fill
pub mod Numbered
pub mod Flat
pub mod Laid
pub mod Exchange
pub mod Strides
pub mod Falls
pub mod Machine
