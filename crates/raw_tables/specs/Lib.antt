pub mod Visible
pub mod Found
pub mod Store
