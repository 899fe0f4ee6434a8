pub mod Widths
pub mod Cells
pub mod Searches
