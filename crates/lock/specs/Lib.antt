pub mod Instances
pub mod Linear
pub mod Locks
pub mod Products
pub mod Profiles
pub mod Theorems
