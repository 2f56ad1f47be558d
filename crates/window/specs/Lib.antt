pub mod Places
pub mod Words
pub mod PutBack
