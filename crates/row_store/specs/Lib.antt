pub mod Pages
pub mod MemRows
