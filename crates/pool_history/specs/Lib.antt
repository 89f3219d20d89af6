pub mod Ownership
pub mod CellInvariant
pub mod CallerStates
pub mod Finish
pub mod Segments
pub mod Stored
pub mod Answers
