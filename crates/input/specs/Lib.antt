pub mod Modes
pub mod Reads
