pub mod Identities
pub mod Targets
