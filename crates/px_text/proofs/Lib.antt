pub mod DecimalLaws
pub mod LineLaws
pub mod PlainLaws
pub mod SpacedLaws
