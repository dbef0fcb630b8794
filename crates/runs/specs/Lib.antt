pub mod Runs
pub mod Law
pub mod Lending
pub mod Steps
