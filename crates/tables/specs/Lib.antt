pub mod Rows
pub mod Contents
pub mod Lookups
pub mod Compaction
