pub mod Greatest
pub mod Vectors
pub mod BestMember
pub mod Links
pub mod CandidateLaws
