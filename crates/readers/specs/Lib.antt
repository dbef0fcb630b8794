pub mod Meaning
pub mod Draws
pub mod Split
pub mod Stream
pub mod Fold
