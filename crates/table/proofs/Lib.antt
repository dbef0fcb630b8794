pub mod Bounds
pub mod Walks
pub mod Blocks
pub mod Bytes
pub mod Openings
pub mod Images
pub mod Stores
