pub mod Told
pub mod Roomy
