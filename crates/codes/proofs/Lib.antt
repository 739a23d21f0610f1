-- Laws of the codes and of an answer's bytes.
pub mod Thin
pub mod Put
pub mod Apart
pub mod Few
