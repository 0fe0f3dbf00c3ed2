pub mod Numbers
pub mod Gathering
pub mod Stored
pub mod Order
pub mod Freeing
pub mod Finding
pub mod Writing
pub mod Copying
