pub mod WaitQueues
pub mod Lines
