pub mod Listing
pub mod Outcomes
pub mod Progress
pub mod Settlement
pub mod Steps
