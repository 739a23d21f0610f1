-- Laws of the questions and of a call on one key.
pub mod Due
pub mod Questions
pub mod OneKey
pub mod Stored
pub mod Steps
pub mod Ended
pub mod Endings
pub mod InPlace
