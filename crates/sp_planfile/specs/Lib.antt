pub mod RunText
pub mod Contents
pub mod PlanText
pub mod Form
pub mod Laws
pub mod ModelText
