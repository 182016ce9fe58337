pub mod Passing
pub mod ChecksLaw
pub mod Rowing
pub mod TruthLaw
pub mod Agreement
