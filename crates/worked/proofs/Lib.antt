pub mod Searches
pub mod Holding
pub mod Turns
pub mod Tables
pub mod Cases
