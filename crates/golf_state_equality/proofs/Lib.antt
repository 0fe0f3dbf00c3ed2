pub mod Equal
pub mod Cuts
pub mod Entries
