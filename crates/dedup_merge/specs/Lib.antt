pub mod Cursors
pub mod Winners
pub mod Merges
pub mod Steps
pub mod Faults
pub mod Pages
pub mod Examples
pub mod Laws
