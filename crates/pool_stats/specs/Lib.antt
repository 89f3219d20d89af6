pub mod Answers
pub mod Counts
pub mod Ended
pub mod Lendings
pub mod Running
pub mod Statistics
pub mod Tallied
pub mod Words
