pub mod Found
pub mod ManyLaws
pub mod DeclSound
pub mod DeclComplete
pub mod ManySteps
pub mod SegmentLaws
pub mod FileLaws
pub mod OneTree
