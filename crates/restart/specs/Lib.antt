pub mod Promises
pub mod Turns
