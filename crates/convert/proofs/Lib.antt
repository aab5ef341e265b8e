pub mod Marking
pub mod Answering
pub mod Converting
