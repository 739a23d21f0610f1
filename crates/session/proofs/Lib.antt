pub mod Threes
pub mod Months
pub mod YearTable
pub mod Fits
