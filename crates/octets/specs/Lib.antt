pub mod Choice
pub mod Checks
pub mod Bytes
pub mod Words
