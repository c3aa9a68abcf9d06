pub mod AskLaws
pub mod ListenLemmas
pub mod PartLemmas
pub mod ReadLemmas
