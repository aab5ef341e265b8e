pub mod Stepping
pub mod Leaving
