pub mod Cutting
pub mod Standing
pub mod Within
pub mod Sound
