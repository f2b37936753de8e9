pub mod Vector
pub mod Segments
