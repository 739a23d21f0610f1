-- What the contracts of `update` cite beside the model.
pub mod Calls
