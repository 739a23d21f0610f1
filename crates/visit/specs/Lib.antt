-- What the contracts of `visit` cite beside the model.
pub mod Passes
