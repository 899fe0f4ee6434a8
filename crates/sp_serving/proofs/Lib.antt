pub mod Commanding
pub mod LogSteps
pub mod Transcripts
pub mod Advancing
pub mod Keeping
pub mod Resting
