pub mod Sbox
pub mod Word
pub mod Expansion
pub mod Cipher
pub mod Keyed
pub mod Examples
