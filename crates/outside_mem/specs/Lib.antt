pub mod MemDesk
pub mod Calls
pub mod MemDock
pub mod Streams
