pub mod Dense
pub mod Squeeze
