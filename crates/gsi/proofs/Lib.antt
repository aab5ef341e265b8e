pub mod Digits
pub mod Comparing
pub mod Rules
