-- Laws of the places.
pub mod Laws
pub mod Moves
pub mod Padded
pub mod Model
