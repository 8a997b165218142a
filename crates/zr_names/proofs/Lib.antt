pub mod HexText
pub mod MarkKinds
pub mod MarkNames
pub mod Parts
pub mod Unique
pub mod Trees
