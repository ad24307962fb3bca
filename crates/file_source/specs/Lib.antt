pub mod Blob
pub mod Rows
pub mod Laws
pub mod Files
pub mod Discovered
