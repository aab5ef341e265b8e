pub mod Offsets
pub mod Reporting
