-- Laws of `order`.
pub mod Exchange
pub mod Rank
