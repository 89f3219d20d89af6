mod Held
pub mod Openings
mod Pairs
mod Quiet
mod Sent
