-- Laws of insert_or_update in place.
pub mod Laws
