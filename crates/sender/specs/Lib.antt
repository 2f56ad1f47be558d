pub mod Cutting
pub mod Ranges
pub mod Whole
pub mod Answers
pub mod Sending
pub mod Messages
