pub mod Decimals
pub mod Signs
pub mod Lines
pub mod Hexes
pub mod Examples
