pub mod Letters
pub mod Options
pub mod Roots
pub mod Names
pub mod Tables
