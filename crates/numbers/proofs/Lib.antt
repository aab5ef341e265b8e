pub mod Digits
pub mod Zeros
