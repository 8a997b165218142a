pub mod Passing
pub mod Servers
pub mod Pairs
pub mod OfFile
