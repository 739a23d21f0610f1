-- Laws of buckets by value.
pub mod Stored
pub mod Sound
pub mod Steps
pub mod Rules
pub mod Answers
pub mod Entry
pub mod Held
