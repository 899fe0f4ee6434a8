pub mod LeafLemmas
pub mod RowLemmas
pub mod KeptLemmas
pub mod LawLemmas
