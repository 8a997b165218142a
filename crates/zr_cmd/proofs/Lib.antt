pub mod Texts
pub mod Cut
pub mod Fronts
pub mod Spelling
pub mod Longest
pub mod Calls
pub mod Commas
