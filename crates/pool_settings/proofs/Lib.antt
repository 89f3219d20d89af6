pub mod Blank
pub mod ByteOrder
pub mod Escapes
pub mod Ranges
