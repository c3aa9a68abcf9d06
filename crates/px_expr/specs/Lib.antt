pub mod Tree
pub mod Shapes
pub mod Waiting
pub mod TreeCode
pub mod Cells
pub mod Postorder
pub mod Kept
