pub mod Numbers
pub mod Laying
pub mod Lulls
pub mod Orders
pub mod Stamps
