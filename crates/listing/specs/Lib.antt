-- What the contracts of the listings cite beside the model.
pub mod Listed
