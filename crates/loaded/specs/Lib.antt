-- What the contracts of `loaded` cite beside the model.
pub mod Answer
pub mod Load
