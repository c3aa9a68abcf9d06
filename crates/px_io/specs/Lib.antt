pub mod Counts
pub mod Edge
pub mod InMemory
pub mod Reports
