pub mod Scores
pub mod Tasks
pub mod Editions
pub mod Linked
pub mod Candidates
pub mod Laws
pub mod Events
