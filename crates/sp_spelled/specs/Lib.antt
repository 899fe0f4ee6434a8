pub mod Signs
pub mod Shapes
pub mod Words
pub mod Written
