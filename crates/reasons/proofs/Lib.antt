-- Laws of the reasons.
pub mod Rules
