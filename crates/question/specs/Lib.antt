pub mod Lines
pub mod Faults
pub mod Checks
pub mod Truth
pub mod Areas
