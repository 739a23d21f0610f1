-- Laws that belong to no one function.
pub mod Words
pub mod Bytes
pub mod Leading
pub mod Steps
