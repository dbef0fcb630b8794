pub mod Words
pub mod Standing
pub mod Only
pub mod Verdicts
pub mod Bound
pub mod Writing
pub mod Tabling
