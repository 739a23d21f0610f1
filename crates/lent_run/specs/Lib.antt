-- The buckets and nodes of the program.
pub mod Lends
