-- The theorems that fall where an edit of must-fail/ turns a definition of specs/.
pub mod Chain
pub mod Complete
pub mod Loop
pub mod Finished
