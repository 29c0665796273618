pub mod Left
pub mod Kept
