pub use Rattle.px_text.specs.Text
pub mod Cells
pub mod Grids
pub mod OverSolids
pub mod Pixels
pub mod Planes
pub mod Scenes
