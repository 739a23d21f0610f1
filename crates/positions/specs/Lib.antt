-- What the contracts of `positions` cite beside the model and the crates called.
pub mod Positions
