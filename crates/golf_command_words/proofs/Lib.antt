mod Cuts
mod Examples
mod Generates
mod Meanings
mod Law
pub mod Limits
mod Numbers
mod Outcomes
mod Commands
mod Runs
mod RunLines
mod RunOptions
mod RunWords
mod Settings
