pub mod Ends
pub mod Piping
pub mod Stored
