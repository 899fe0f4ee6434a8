pub mod Slots
pub mod JoinedParts
pub mod Points
pub mod Rows
pub mod Identities
