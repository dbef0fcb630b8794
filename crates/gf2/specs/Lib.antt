pub mod Masks
pub mod Kinds
pub mod Rows
pub mod Fills
pub mod Theorems
