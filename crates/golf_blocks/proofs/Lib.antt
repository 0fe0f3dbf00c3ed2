pub mod Gathers
pub mod Middles
mod EntryLaws
pub mod Parts
mod BlockLaws
mod Places
mod Halves
mod Retains
mod Takings
pub mod SpotLaws
pub mod ClosingUp
mod SuccessorLaws
