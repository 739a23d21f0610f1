-- What the contracts of `key` cite beside the model.
pub mod Key
pub mod Answers
pub mod Visits
