pub use Rattle.px_rows.specs.Rows
pub mod Heap
pub mod Lanes
pub mod Lent
pub mod Trees
