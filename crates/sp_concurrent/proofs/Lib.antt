pub mod Dealing
pub mod Gathered
pub mod Parts
pub mod Ending
