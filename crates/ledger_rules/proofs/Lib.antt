pub mod Same
pub mod Waits
pub mod Judges
pub mod Stands
