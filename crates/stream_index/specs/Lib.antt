pub mod Distinct
pub mod Same
