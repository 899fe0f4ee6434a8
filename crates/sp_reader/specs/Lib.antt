pub mod Kinds
pub mod Sources
