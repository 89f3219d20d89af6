pub mod Chains
pub mod Items
pub mod Keys
pub mod Moves
pub mod Queues
pub mod Sums
