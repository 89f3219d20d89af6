pub mod Endings
pub mod Talliers
pub mod Times
pub mod Runs
