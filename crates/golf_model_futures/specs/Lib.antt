pub mod Invariant
pub mod CutStates
pub mod EarlierOutput
pub mod Laws
pub mod ReportedGoroutines
pub mod Orderly
pub mod OrderLaws
