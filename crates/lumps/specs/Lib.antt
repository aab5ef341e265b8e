pub mod Lumps
pub mod Promise
