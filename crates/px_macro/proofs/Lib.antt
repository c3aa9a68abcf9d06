pub mod MacroLemmas
pub mod NumberLaws
