pub mod Declarations
pub mod ReadBack
