-- What buckets by value stand for, and the calls on a bucket by itself.
pub mod Bucket
pub mod Calls
pub mod Ending
pub mod Settings
