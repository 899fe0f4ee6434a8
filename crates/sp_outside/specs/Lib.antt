pub mod Counts
pub mod Bytes
pub mod Folder
pub mod Written
pub mod Files
pub mod Entries
pub mod Memory
