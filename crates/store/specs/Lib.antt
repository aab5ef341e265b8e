pub mod Layout
pub mod Phases
pub mod Numbers
pub mod Stores
pub mod Tests
