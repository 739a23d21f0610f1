pub mod Hours
pub mod YearTable
