pub mod Record
pub mod Decimal
pub mod Line
