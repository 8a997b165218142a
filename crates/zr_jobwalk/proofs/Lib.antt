pub mod Trees
pub mod Strangers
pub mod NoTexts
pub mod BadTexts
pub mod InnerTables
pub mod Sizes
pub mod Sorting
pub mod Parts
