pub mod Start
pub mod Parts
pub mod Source
pub mod Laws
