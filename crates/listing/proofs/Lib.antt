-- Laws of the listings.
pub mod Given
pub mod Shapes
pub mod Putting
pub mod Steps
