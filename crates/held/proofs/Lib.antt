-- Laws of a bucket in its bytes.
pub mod Quiet
pub mod Places
pub mod Moves
pub mod Steps
