pub mod Replies
pub mod Drawing
pub mod Hashing
pub mod Words
