pub mod Pairs
pub mod Commands
pub mod Connectors
pub mod Shown
pub mod Usage
