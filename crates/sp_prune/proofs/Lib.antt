pub mod States
pub mod LeastLemmas
