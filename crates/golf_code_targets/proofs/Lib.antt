mod Looks
mod Resolved
mod Taken
