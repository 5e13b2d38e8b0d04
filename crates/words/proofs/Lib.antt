pub mod Rows
pub mod Ends
pub mod Scans
pub mod Sorts
pub mod Faultless
pub mod Cuts
pub mod Examples
