pub mod Places
pub mod Configuration
pub mod Reading
