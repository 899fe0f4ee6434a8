pub mod Words
pub mod Sizes
pub mod Problem
pub mod Rewards
pub mod Kept
pub mod Weights
pub mod ModelLaws
pub mod Links
