pub mod Attending
pub mod Runs
