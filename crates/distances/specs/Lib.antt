-- What the contracts of `distances` cite beside the model.
pub mod Passes
pub mod Early
