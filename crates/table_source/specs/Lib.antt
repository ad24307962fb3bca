pub mod Keyed
pub mod Total
pub mod Blob
pub mod Table
pub mod Discovered
