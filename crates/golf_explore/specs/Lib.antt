pub mod AlikeStates
pub mod Ranks
pub mod VisitLists
pub mod FrameLocalTurns
pub mod Results
pub mod Sought
pub mod Sane
