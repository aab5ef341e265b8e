pub mod Scanning
pub mod Scanned
pub mod Places
pub mod PlacesLeft
