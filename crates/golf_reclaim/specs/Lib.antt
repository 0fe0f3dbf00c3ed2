pub mod Collected
pub mod Flags
pub mod RunBook
pub mod Promises
