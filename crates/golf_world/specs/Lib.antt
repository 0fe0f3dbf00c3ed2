pub mod History
pub mod Names
pub mod Rule
pub mod Runs
pub mod Seats
pub mod StartedGoroutines
pub mod Steps
