-- Laws of the visit.
pub mod Visitable
pub mod Counts
pub mod Applying
pub mod Passes
