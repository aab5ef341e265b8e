pub mod Fronts
pub mod Rules
pub mod Cutting
