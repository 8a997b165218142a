pub mod Calls
pub mod Ends
pub mod Free
pub mod Pairs
pub mod Resumed
pub mod Served
