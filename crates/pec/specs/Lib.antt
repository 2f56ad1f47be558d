pub mod Remainder
pub mod Table
pub mod Wire
pub mod Words
