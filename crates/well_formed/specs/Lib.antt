-- What the contracts of `well_formed` cite beside the model.
pub mod Tests
pub mod Index
