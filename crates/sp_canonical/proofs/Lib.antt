pub mod Pieces
pub mod Loops
pub mod SlotLemmas
pub mod TableLemmas
pub mod Examples
pub mod DependenceLemmas
