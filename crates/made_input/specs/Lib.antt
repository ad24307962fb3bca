pub mod Made
pub mod Catalog
pub mod Parts
