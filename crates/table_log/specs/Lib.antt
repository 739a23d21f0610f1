-- The log, and what is claimed of whole lists of calls.
pub mod Log
pub mod Closest
pub mod Claim
pub mod Pending
pub mod Sample
