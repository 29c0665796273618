pub mod Says
pub mod Records
pub mod Hex
