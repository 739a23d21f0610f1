-- What the contracts of `saved` cite beside the model.
pub mod Fields
