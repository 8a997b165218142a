pub mod Decimal
pub mod Moments
pub mod Parts
pub mod Rising
pub mod Shown
