pub mod Published
pub mod Logs
pub mod Rules
pub mod Snapshot
pub mod Laws
pub mod Names
