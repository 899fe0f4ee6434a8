pub mod Unique
pub mod Pieces
pub mod Sections
pub mod Whole
pub mod LogTexts
pub mod PlanTexts
pub mod ValueTexts
pub mod OptionTexts
