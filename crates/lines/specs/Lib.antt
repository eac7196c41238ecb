pub mod Listing
pub mod Unprinted
