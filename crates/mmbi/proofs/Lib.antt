pub mod States
pub mod Words
pub mod PointerNumbers
pub mod Determined
pub mod Literal
pub mod Borders
