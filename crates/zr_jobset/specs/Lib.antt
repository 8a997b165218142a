pub mod Kinds
pub mod Fields
pub mod Checks
pub mod Sets
pub mod Places
pub mod Units
