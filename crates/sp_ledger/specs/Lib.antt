pub mod Accounts
pub mod Replayed
pub mod Choices
pub mod Opening
pub mod Listed
