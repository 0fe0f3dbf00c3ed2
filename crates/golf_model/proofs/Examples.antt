-- Small codes that are run by computing.
pub mod Writing
pub mod Meeting
pub mod Channels
pub mod Selecting
pub mod Panicking
pub mod Mutexes
pub mod Calculating
pub mod Blocking
pub mod Stuck
pub mod Written
pub mod Finalisers
pub mod Leaks
pub mod Graphs
pub mod Further
