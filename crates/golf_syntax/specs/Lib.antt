pub mod Laws
pub mod Many
pub mod DeclarationReader
pub mod SegmentReader
pub mod Parses
