pub mod Listing
pub mod Shares
pub mod Lulls
pub mod Many
