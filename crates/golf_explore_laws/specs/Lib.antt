pub mod After
pub mod Alike
pub mod Closed
pub mod Laws
pub mod Local
pub mod StandIns
