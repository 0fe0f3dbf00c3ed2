mod Queueing
pub mod Adding
