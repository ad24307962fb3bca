pub mod Content
pub mod Views
