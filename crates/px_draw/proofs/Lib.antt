pub mod AskingLemmas
pub mod ListedLemmas
pub mod MeanLemmas
pub mod PartLemmas
pub mod PlayLemmas
pub mod RunLemmas
pub mod ServedLemmas
pub mod WorkLemmas
