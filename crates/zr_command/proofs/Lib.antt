pub mod Repeated
pub mod Unnamed
