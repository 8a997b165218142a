pub mod Pairs
pub mod Patterns
pub mod Shapes
pub mod Documents
pub mod Plain
pub mod Checked
