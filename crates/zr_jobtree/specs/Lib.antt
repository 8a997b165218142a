pub mod Kinds
pub mod Copying
pub mod Jobs
pub mod Roots
pub mod Walks
