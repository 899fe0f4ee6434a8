pub mod Items
pub mod Pieces
pub mod Apps
pub mod Jobs
