-- Demands 1 and 3 for the code, the answers that each call can give, and what became of pendings; the same for a host, on codes and bytes.
-- Every call of the code is such a run: EntryPoints, HostFunctions. The promise of a member's own old record, that a table survives a box
-- swap, and that buckets elsewhere stop no call, for both. What session hours admit.
pub mod Returns
pub mod Linked
pub mod EntryPoints
pub mod HostFunctions
pub mod Ran
pub mod Records
pub mod Left
pub mod Listed
pub mod Refusals
pub mod Demand
pub mod Pending
pub mod Listings
pub mod Codes
pub mod Exports
pub mod Reading
pub mod Heard
pub mod HostDemand
pub mod Common
pub mod CheckingLess
pub mod OwnRecord
pub mod Hours
pub mod HostPending
pub mod Saved
