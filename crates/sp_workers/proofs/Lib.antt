pub mod Beginnings
pub mod Changes
pub mod Growing
pub mod Seen
pub mod Standing
