pub mod Values
pub mod Common
pub mod States
pub mod Views
pub mod Frames
pub mod Filled
