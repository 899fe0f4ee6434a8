pub mod Logs
pub mod Sessions
pub mod Seats
pub mod Answering
pub mod Laws
