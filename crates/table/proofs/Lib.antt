-- Laws of the calls that are not on one key.
pub mod Whole
