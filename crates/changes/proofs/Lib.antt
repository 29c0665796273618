pub mod Shapes
pub mod Undamaged
pub mod Rooms
pub mod Outcomes
pub mod Lists
