pub mod Writing
pub mod Progressing
pub mod Searching
pub mod Leaking
mod TracedWrites
pub mod Calling
