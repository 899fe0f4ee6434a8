pub mod Acceptance
pub mod Meanings
pub mod Models
