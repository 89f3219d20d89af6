pub mod Going
pub mod Moving
pub mod Overtaking
pub mod Queueing
pub mod Running
