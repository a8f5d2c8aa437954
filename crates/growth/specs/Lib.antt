-- What the loops of completion keep, in the theory: one grade grown row by row.
pub mod Setting
pub mod Meets
pub mod Grade
pub mod Turns
pub mod End
pub mod State
pub mod Finish
pub mod Ended
