pub mod Interface
pub mod Words
pub mod Pointers
pub mod Changes
