pub mod States
pub mod Grants
pub mod Parts
pub mod Saying
pub mod Keeping
pub mod Restarting
