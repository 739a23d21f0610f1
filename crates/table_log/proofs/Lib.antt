-- A computed instance of the claim.
pub mod Sample
