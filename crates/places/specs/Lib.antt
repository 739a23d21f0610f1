-- Lists of nodes, place by place.
pub mod Places
