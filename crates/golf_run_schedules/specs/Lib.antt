pub mod Events
pub mod Options
pub mod Laws
