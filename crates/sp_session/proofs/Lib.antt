pub mod Entering
pub mod Seating
pub mod Closing
