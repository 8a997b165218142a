pub mod Knowing
pub mod Decisions
pub mod Forward
