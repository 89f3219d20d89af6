pub mod Going
pub mod Hosting
pub mod Overtaking
pub mod Queueing
pub mod Words
