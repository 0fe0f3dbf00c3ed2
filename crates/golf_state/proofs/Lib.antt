pub mod Tops
pub mod PlaceLaws
pub mod Orders
pub mod WaiterLaws
pub mod Readiness
pub mod Wakings
pub mod Doings
pub mod Serving
pub mod Outcomings
pub mod Runnings
mod Retaining
pub mod EnqueuedLaws
mod WakeLaws
mod ReaderLaws
pub mod FirstLaws
mod Leaving
mod ClearingLaws
mod Comparisons
pub mod References
mod Copied
