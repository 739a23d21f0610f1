-- What the calls on a bucket by itself return and leave.
pub mod Lent
pub mod Calls
