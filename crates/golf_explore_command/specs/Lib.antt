pub mod Texts
pub mod Answers
pub mod Progress
pub mod Means
