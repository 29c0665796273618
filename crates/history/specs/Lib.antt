pub mod Words
pub mod History
pub mod Runs
pub mod Demands
pub mod StandIns
pub mod States
pub mod Worlds
