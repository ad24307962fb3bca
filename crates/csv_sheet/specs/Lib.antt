pub mod Sheet
pub mod Cells
pub mod Reads
