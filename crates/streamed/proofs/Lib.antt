pub mod Kept
pub mod Walking
pub mod Sound
pub mod Feeding
pub mod Answers
pub mod Calls
