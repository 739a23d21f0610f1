-- Laws that the proofs of `saved` share.
pub mod Fields
pub mod Held
pub mod Output
