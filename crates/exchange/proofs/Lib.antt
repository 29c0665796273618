pub mod Asked
pub mod Messages
pub mod Words
