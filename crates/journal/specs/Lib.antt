pub mod Counts
pub mod Heads
pub mod Kinds
pub mod Places
