pub mod Links
pub mod Neighbours
pub mod SlotsModel
