pub mod WidthLemmas
pub mod Listing
pub mod Cofactors
pub mod Entries
pub mod DotLemmas
pub mod Parts
pub mod Blocks
pub mod Roots
