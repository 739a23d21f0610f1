-- Laws of the bytes of declared values and nodes.
pub mod Bytes
pub mod Chunks
