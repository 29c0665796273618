pub mod States
pub mod Messages
pub mod Bytes
