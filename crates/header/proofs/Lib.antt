-- Laws of the storage's header.
pub mod Runs
pub mod Header
pub mod Queue
pub mod New
