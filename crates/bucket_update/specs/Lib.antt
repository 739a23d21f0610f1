-- What the contracts of `bucket_update` cite beside the model.
pub mod Again
pub mod Results
