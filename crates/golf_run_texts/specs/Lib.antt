pub mod Codes
pub mod Fixed
pub mod Texts
pub mod Output
pub mod Writes
pub mod Totals
