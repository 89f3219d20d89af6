pub mod Dropped
pub mod Found
pub mod Keys
pub mod Marked
pub mod Pushed
pub mod There
