pub mod CaughtUp
pub mod Increments
pub mod Plans
pub mod Sides
