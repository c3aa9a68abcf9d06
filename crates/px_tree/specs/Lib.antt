pub use Rattle.px_num.specs.Bits
pub use Rattle.px_num.specs.Forms
pub use Rattle.px_num.specs.Lists
pub mod Feeds
pub mod Nodes
pub mod Sums
pub mod TreeBit
