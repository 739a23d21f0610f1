-- What the contracts of `order` cite beside the model.
pub mod Exchange
pub mod Found
pub mod Rank
