-- What the contracts of `header` cite beside the model.
pub mod Queue
