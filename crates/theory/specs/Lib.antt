-- The theory of finished tables, over an abstract kit of loads, any order that keeps its laws, and any relation that is alike.
pub mod Kit
pub mod Rows
pub mod Settle
pub mod Table
pub mod Critical
pub mod Index
pub mod Chain
pub mod Reach
pub mod Demand
pub mod Unique
pub mod Grow
pub mod Tails
pub mod Complete
pub mod Finished
pub mod Room
pub mod Loop
pub mod Leap
