pub mod Serves
pub mod Notices
pub mod Outcomes
