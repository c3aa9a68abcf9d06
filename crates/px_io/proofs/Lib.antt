pub mod ReadingLemmas
pub mod ToldLaws
