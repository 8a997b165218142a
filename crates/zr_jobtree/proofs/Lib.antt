pub mod Named
pub mod Whole
pub mod Faults
