-- What the contracts of `table_filter` cite beside the model.
pub mod Counted
pub mod Filtered
