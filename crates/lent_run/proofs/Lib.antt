-- What the program's calls give.
pub mod Computed
