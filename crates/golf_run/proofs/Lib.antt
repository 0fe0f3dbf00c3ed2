mod Appending
pub mod Writing
mod Printed
mod Real
mod Leaving
mod Totalling
mod Goings
mod Lines
mod Sleepers
mod Tellings
mod Turning
mod Silent
mod Advanced
mod Cutting
mod Ending
pub mod Prefixes
mod Stepping
mod Finishing
mod TurnLines
mod Tracings
pub mod Reported
