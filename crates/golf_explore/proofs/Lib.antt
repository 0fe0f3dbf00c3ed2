pub mod TurnLists
pub mod Settled
pub mod Growing
pub mod Parents
pub mod DeadFlags
pub mod Leading
mod Seekings
pub mod Standing
pub mod Led
pub mod Falling
pub mod Searched
pub mod Partners
pub mod WaitPairs
pub mod Sanities
