pub mod Group
pub mod Kinds
pub mod Listings
pub mod Names
pub mod Plain
