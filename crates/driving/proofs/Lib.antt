pub mod Turning
pub mod Running
pub mod Promised
pub mod Moments
pub mod RunLaws
pub mod KnownTables
pub mod Refuted
