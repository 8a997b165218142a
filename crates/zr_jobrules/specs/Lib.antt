pub mod Patterns
pub mod Rules
pub mod Pruning
pub mod Filesystems
