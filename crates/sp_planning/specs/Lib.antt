pub mod Laws
pub mod PlanFiles
pub mod ScriptFiles
pub mod BookFiles
pub mod RunFiles
