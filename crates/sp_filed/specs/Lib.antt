pub mod Sizes
pub mod Stops
pub mod Sampled
pub mod Tails
pub mod Files
pub mod Laws
