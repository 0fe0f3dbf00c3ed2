pub mod Piece
pub mod Depth
pub mod Laws
pub mod Emission
