-- Laws of the table filter.
pub mod Held
pub mod Asked
pub mod Octets
