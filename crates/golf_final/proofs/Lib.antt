pub mod Parts
pub mod Making
pub mod Leading
pub mod KeepLaw
pub mod Flagging
