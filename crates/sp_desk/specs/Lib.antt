pub mod Desks
pub mod Kept
pub mod Places
pub mod Asked
pub mod Ended
pub mod Serving
pub mod Runs
pub mod Laws
