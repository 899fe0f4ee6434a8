pub mod Diagonals
pub mod Walks
