-- The theorems that fall where an edit of must-fail/ turns a definition of specs/.
pub mod Spelled
pub mod Lines
pub mod Back
pub mod Call
pub mod Worked
