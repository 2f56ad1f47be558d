pub mod Sends
pub mod Drains
pub mod Closings
pub mod Turns
pub mod Runs
pub mod Determined
