pub mod Sizes
pub mod Images
pub mod Questions
pub mod Tables
pub mod Laws
pub mod Texts
