-- What the declared values, statuses and nodes stand for.
pub mod Status
pub mod Node
pub mod Refusal
