-- Laws of `explanation`.
pub mod Text
pub mod Keys
pub mod Short
