pub mod Fronts
pub mod Values
pub mod Objects
pub mod Laws
