pub mod Bytes
pub mod Runs
pub mod Trees
pub mod Twice
pub mod Utf8
