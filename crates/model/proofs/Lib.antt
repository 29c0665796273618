pub mod Night
pub mod Orders
pub mod Exchange
