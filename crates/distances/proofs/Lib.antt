-- Laws of nodes_by_distances.
pub mod Named
pub mod Passes
pub mod Written
pub mod Answers
pub mod Yielded
