-- Laws of the calls on a bucket by itself.
pub mod Sound
pub mod Outcome
