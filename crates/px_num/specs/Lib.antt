pub mod Bits
pub mod Forms
pub mod Lists
pub mod Want
