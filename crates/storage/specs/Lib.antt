-- What the contracts of `storage` cite beside the model.
pub mod Read
