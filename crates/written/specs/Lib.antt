-- A sheet that is written reads back as what it was written from.
pub mod Write
pub mod Parts
pub mod Spelled
pub mod Lines
pub mod Back
pub mod Placed
pub mod Worked
