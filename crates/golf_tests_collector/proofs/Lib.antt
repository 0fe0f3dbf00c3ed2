mod StuckStates
pub mod Leading
