pub mod Answers
pub mod Link
pub mod Trace
