-- Laws of `items`.
pub mod Items
pub mod Run
pub mod Ranks
pub mod Shown
pub mod Asked
