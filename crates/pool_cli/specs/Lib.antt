pub mod Help
pub mod Hints
pub mod Messages
pub mod Arguments
pub mod Matches
