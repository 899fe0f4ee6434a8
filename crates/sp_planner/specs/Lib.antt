pub mod Planned
pub mod Turns
pub mod Pauses
pub mod Numbers
pub mod Laws
