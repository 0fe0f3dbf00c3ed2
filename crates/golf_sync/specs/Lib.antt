pub mod Objects
pub mod Served
pub mod Notified
