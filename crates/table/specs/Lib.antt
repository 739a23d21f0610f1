-- What the contracts of `table` cite beside the model.
pub mod Calls
