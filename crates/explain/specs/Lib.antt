-- What the contracts of `explain` cite beside the model.
pub mod Calls
