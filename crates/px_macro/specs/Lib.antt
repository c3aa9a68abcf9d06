pub use Rattle.px_num.specs.Bits
pub use Rattle.px_num.specs.Forms
pub mod FieldLaws
pub mod Fields
pub mod Macros
