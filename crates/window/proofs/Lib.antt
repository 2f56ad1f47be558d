pub mod Areas
pub mod Stores
pub mod Flags
pub mod Determined
pub mod Literal
pub mod Refused
pub mod Interfaces
pub mod PutBack
