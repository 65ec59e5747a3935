pub mod Regular
pub mod Theorems
pub mod Regulars
pub mod Counts
pub mod Makes
pub mod Hots
pub mod Sizes
