pub mod Types
pub mod Grows
pub mod Shapes
pub mod WellTyped
pub mod NeededSlots
pub mod Laws
pub mod ProgressLaws
