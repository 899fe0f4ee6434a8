pub mod Totals
pub mod Words
pub mod Sampled
pub mod Tables
