-- Laws of values and nodes.
pub mod Tests
pub mod Codes
pub mod Stored
