pub mod ScopeGuards
pub mod RowGuards
pub mod TotalGuards
