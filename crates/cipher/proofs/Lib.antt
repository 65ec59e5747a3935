pub mod Arrays
pub mod Fours
pub mod Numbers
pub mod Products
pub mod Schedules
