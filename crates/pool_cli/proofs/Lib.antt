pub mod Lines
pub mod Decimals
pub mod Words
pub mod Walks
pub mod Leaves
pub mod Pages
pub mod Tops
pub mod Calls
