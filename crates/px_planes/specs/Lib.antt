pub use Rattle.px_rows.specs.Rows
pub mod ArraysLaw
pub mod Lent
pub mod Operations
pub mod Pixels
pub mod Shelves
