pub mod Index
pub mod Kept
pub mod Out
pub mod Queue
pub mod Ready
pub mod Seats
pub mod Steps
pub mod Turns
