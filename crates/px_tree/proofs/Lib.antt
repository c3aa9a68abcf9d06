pub mod DelayLemmas
pub mod FeedingLemmas
pub mod LeafLemmas
pub mod NodeLemmas
pub mod PlaceLaws
pub mod SumLemmas
