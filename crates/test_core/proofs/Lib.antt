pub mod Ids
pub mod Moments
