pub mod Drawing
pub mod Words
pub mod Judging
pub mod Asking
