pub mod Room
pub mod Sections
