-- Laws of walks over a lent bucket.
pub mod Params
pub mod Reply
pub mod Thin
pub mod Own
pub mod Calls
