pub mod Packed
pub mod Fronts
pub mod Drawing
pub mod Decoded
