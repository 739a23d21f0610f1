-- What the contracts of `explanation` cite beside the model.
pub mod Explanation
pub mod Put
