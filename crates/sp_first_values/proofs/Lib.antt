pub mod Totals
pub mod Opening
