-- Laws of the positions: calls one behind the other, what they answer, and what is checked of an answer.
pub mod Calls
pub mod Computed
pub mod Checks
