pub mod Rising
pub mod Ahead
pub mod Comparing
pub mod Saying
pub mod Judged
pub mod Applying
