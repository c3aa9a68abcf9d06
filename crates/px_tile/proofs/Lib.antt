pub mod CrowdLemmas
pub mod DrawLemmas
pub mod FirstLemmas
pub mod FoundLemmas
pub mod ImageLemmas
pub mod TileLemmas
pub mod TilingLemmas
