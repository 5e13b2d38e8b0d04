pub mod Meaning
pub mod Pulses
pub mod Ring
pub mod Tenths
pub mod Limits
pub mod Bounds
pub mod Laws
