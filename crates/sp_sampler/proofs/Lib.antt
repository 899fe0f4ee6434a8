pub mod Scales
pub mod Drawing
pub mod WordLemmas
pub mod Continued
pub mod Standing
pub mod ModelSamples
