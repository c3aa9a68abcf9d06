pub use Rattle.px_model.specs.Cells
pub use Rattle.px_model.specs.Scenes
pub mod Boxes
pub mod Covered
pub mod Bounding
pub mod Blocks
pub mod Kept
pub mod PruningLaw
