pub mod Book
pub mod Courses
pub mod Turns
pub mod Laws
pub mod States
pub mod Promise
pub mod Known
pub mod KnownNetworks
