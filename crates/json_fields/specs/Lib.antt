pub mod Answer
pub mod Fields
pub mod Parts
pub mod Words
