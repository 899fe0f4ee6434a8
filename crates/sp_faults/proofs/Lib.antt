pub mod Firsts
pub mod RunLemmas
pub mod LogLemmas
pub mod PruneTests
mod Examples
