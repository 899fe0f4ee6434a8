pub mod LineLemmas
pub mod RequestLemmas
pub mod SeatLemmas
pub mod CommandLemmas
pub mod LedgerLemmas
pub mod ReadingLemmas
pub mod ScriptLemmas
pub mod SomeLemmas
pub mod GrammarLemmas
mod Examples
