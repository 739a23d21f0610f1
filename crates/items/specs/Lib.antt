-- What the contracts of `items` and of the listings cite beside the model.
pub mod Shape
pub mod Run
pub mod Lists
