pub mod Digits
pub mod Puts
pub mod Selected
