-- Laws of the entry calls.
pub mod Kind
pub mod Start
pub mod InPlace
