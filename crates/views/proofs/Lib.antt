pub mod Pages
pub mod Laying
pub mod Slots
pub mod Showing
pub mod Sights
pub mod Dates
