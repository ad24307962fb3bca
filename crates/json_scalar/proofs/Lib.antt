mod Options
mod Powers
mod Spellings
mod Cuts
pub mod Values
pub mod Contents
mod Lexing
pub mod Plain
mod Decoded
mod Decimals
