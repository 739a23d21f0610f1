-- Laws of the reader: what is built of a bucket, its values of one /24, question 9, the buckets put one by one, and the whole call.
pub mod Built
pub mod Nets
pub mod Crowded
pub mod Asked
pub mod Filled
pub mod Whole
