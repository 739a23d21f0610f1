-- What the exports return.
pub mod Codes
pub mod Exported
pub mod Carried
