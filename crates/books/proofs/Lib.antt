pub mod Exact
pub mod Tested
