pub mod ByteLemmas
pub mod FileLemmas
