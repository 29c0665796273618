pub mod Read
pub mod Knows
