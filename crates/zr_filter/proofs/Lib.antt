pub mod Counting
pub mod Paths
pub mod Reaching
pub mod Stems
