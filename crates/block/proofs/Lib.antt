pub mod Fields
pub mod Headers
pub mod Ends
