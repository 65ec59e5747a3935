pub mod Examples
pub mod Places
pub mod Roots
pub mod Theorems
pub mod Weight
pub mod Weights
pub mod Linear
pub mod Rooted
