pub mod Presenting
pub mod Using
pub mod Turns
pub mod Sending
pub mod Ways
