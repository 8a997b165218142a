pub mod Refusals
pub mod Matching
pub mod Specs
pub mod Rules
pub mod Keeps
pub mod Marks
pub mod Order
