-- What the contracts of `entry` cite beside the model.
pub mod Kind
pub mod Start
