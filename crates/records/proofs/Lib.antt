pub mod Bounds
pub mod Keys
pub mod Layouts
pub mod Trips
pub mod Writers
