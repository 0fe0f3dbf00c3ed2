pub mod BitLaws
pub mod Flags
pub mod Steps
pub mod Closing
pub mod Batches
