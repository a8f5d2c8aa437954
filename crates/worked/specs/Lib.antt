-- Loads worked by hand.
pub mod Examples
pub mod Shown
pub mod Worked
pub mod Shortcuts
pub mod Wrong
pub mod Words
pub mod Still
pub mod Touchstones
