pub mod Statuses
pub mod Lines
pub mod Help
pub mod Texts
pub mod Kinds
pub mod Inputs
pub mod Table
pub mod Faults
