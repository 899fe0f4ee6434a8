pub mod Prefixes
pub mod Adding
pub mod Snaps
pub mod LogLemmas
pub mod PublishedLemmas
