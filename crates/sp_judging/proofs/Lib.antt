pub mod SameRuns
pub mod SameFiles
pub mod FormLemmas
pub mod Migrated
pub mod Judgements
pub mod ScriptLemmas
