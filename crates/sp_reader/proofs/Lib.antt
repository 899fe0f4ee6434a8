pub mod Fronts
pub mod FirstFault
pub mod SourceLemmas
pub mod Joined
