pub mod Demands
pub mod Letters
pub mod OpenFiles
pub mod Boxes
