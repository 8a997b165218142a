pub mod Patterns
pub mod Rule
