pub mod Replies
pub mod Laws
pub mod Progress
pub mod Serving
pub mod Kept
