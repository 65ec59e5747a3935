pub mod Bounds
pub mod Formed
pub mod Growing
pub mod Horner
pub mod Nonzeros
pub mod Placed
