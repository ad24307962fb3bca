pub mod Items
pub mod Places
pub mod Written
pub mod Contents
