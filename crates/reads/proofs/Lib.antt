pub mod Undamaged
pub mod Served
pub mod Answers
pub mod Ticks
pub mod Figured
pub mod Listed
