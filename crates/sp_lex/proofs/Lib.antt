pub mod Steps
pub mod Classes
pub mod Places
pub mod Unique
pub mod Digits
pub mod Spelling
