pub mod Faults
pub mod Explained
