pub mod Soundness
pub mod Statements
pub mod Holding
pub mod Examples
