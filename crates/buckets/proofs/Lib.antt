-- Laws of a bucket that is loaded from bytes, and of one that is stored.
pub mod Loaded
pub mod Put
