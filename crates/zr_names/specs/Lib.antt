pub mod Alphabet
pub mod Hex
pub mod Marks
pub mod Names
pub mod Totals
pub mod Tree
