pub mod Growing
pub mod Writings
mod Examples
mod Anyone
