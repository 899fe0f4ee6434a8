pub mod Leading
pub mod Chain
pub mod Finishing
pub mod Served
pub mod Inside
