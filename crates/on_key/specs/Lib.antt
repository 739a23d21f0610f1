-- What the contracts of the table's calls cite beside the model.
pub mod Answers
pub mod Start
