pub mod Acts
pub mod Arrays
pub mod Clocks
pub mod OpenArrays
pub mod Pixels
pub mod Slots
pub mod Words
