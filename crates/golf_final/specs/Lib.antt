pub mod KeepRule
pub mod Backward
