pub mod Feeding
pub mod Standing
pub mod Sound
