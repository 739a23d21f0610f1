-- What the contracts of `buckets` cite beside the model.
pub mod Read
