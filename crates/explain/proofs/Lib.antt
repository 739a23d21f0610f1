-- Laws of the query.
pub mod Ends
