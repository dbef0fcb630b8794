pub mod Results
pub mod Limits
pub mod Faults
pub mod Texts
