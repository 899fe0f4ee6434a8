pub mod DeskLemmas
pub mod PlaceLemmas
pub mod AskedLemmas
pub mod RunLemmas
pub mod Legality
