pub mod Shared
pub mod Sections
pub mod Later
