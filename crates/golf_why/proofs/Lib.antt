mod SleeperEntries
mod Within
mod Saying
mod Living
