pub mod Deciding
pub mod Known
pub mod Replication
pub mod Straight
