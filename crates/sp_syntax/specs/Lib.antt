pub mod formers
pub mod Classes
pub mod Fault
pub mod Grammar
pub mod Reading
pub mod Refusal
pub mod Spans
