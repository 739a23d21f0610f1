-- Laws of the table's calls that give a value.
pub mod Told
