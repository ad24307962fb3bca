pub mod FormLemmas
pub mod Payloads
pub mod Sounds
pub mod Texts
