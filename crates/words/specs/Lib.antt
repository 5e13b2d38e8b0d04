pub mod Words
pub mod Ends
pub mod Places
pub mod Faults
pub mod Texts
pub mod Statements
