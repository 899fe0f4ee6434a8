pub mod Notes
pub mod PlanFiles
pub mod ActTexts
pub mod Laws
