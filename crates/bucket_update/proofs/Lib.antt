-- Laws of what update_node and insert_or_update do to a bucket.
pub mod Again
pub mod Rules
