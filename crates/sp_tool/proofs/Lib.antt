pub mod Endings
pub mod TableLemmas
pub mod SecondFiles
pub mod LineLemmas
pub mod Pushed
pub mod PlanTexts
pub mod HelpLemmas
