-- The answers that each call can give; what demands 1 and 3, and what became of pendings, are stated with, for the code and for a host; that
-- every call returns; the promise of a member's own old record; the writer and the reader; what a call reads; admission in session hours.
pub mod Listed
pub mod Ran
pub mod Runs
pub mod Returns
pub mod Linked
pub mod EntryPoints
pub mod Exports
pub mod HostFunctions
pub mod OwnRecord
pub mod Saved
pub mod CheckingLess
pub mod Hours
