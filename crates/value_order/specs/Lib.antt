pub mod Order
pub mod Texts
pub mod Held
pub mod Parts
pub mod Places
pub mod Normal
pub mod Marks
