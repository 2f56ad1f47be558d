pub mod Laid
pub mod Parts
pub mod Words
pub mod Choice
pub mod Checks
pub mod Below
pub mod Determined
pub mod Literal
