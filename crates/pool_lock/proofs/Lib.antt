pub mod Answering
pub mod Rooms
pub mod Sections
