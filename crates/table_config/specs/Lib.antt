pub mod Tables
pub mod Config
