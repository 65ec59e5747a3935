pub mod Counts
pub mod Domains
pub mod Equations
pub mod Linear
pub mod Roots
pub mod Samples
pub mod Scaled
