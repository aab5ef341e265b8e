pub mod Plain
pub mod Points
pub mod Reading
pub mod Readings
pub mod Runs
