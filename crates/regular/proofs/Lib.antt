pub mod Chunks
pub mod Views
pub mod Walks
