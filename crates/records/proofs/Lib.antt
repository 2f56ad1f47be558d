pub mod Records
pub mod Walks
pub mod Decimals
pub mod Laying
pub mod Lines
pub mod Determined
pub mod Samples
