pub mod Grids
pub mod Entries
pub mod Lines
pub mod Refusals
