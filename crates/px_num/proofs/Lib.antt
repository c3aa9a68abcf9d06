pub mod AdderLaws
pub mod Basics
pub mod BitLaws
pub mod FormLaws
pub mod ListLaws
pub mod MostLaws
pub mod RangeLaws
pub mod TruthLaws
