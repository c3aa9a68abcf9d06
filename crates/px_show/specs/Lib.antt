pub mod Differences
pub mod Expressions
pub mod Gaps
pub mod Judged
pub mod Printed
pub mod Stacks
pub mod Versions
