pub mod Reads
pub mod Sending
pub mod Main
