pub mod Passing
pub mod TokenSearch
pub mod HeightSearch
pub mod RowNames
pub mod RowBytes
pub mod RowPlaces
pub mod RowSearch
pub mod Numbers
