pub mod Tables
pub mod ModelSigns
pub mod Gaps
pub mod Lent
pub mod Laws
