mod Counting
mod Examples
pub mod Collecting
