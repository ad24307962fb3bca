pub mod Starts
pub mod Left
pub mod Begun
pub mod Replay
pub mod Laws
pub mod LeftLines
pub mod Awaited
