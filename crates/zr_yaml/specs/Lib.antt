pub mod Scan
pub mod Scalar
pub mod Symbols
pub mod Lines
pub mod Document
pub mod Keyed
pub mod Reading
pub mod Views
