mod TwinLemmas
mod Points
