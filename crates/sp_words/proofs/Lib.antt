pub mod WordLemmas
pub mod ItemLemmas
pub mod JobLemmas
pub mod OneJob
pub mod ParserLemmas
pub mod CommandLemmas
