pub mod Lanes
pub mod Rows
pub mod Sums
pub mod ValueBlocks
pub mod Words
