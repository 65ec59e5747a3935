pub mod Formats
pub mod Openings
pub mod Publics
pub mod Secrets
pub mod Trips
pub mod Writers
