-- Laws of question 2.
pub mod Places
pub mod KeyPlace
pub mod Buckets
pub mod Shown
pub mod Leading
