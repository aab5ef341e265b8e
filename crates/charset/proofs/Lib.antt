pub mod Table
pub mod Codes
pub mod Points
pub mod Positions
pub mod Laws
