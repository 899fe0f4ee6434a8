pub mod Signs
pub mod Generated
