pub mod DrawingLemmas
pub mod SampleLemmas
pub mod SampleSolidLemmas
pub mod SampleTextLemmas
pub mod SampleTreeLemmas
pub mod SampleWalkLemmas
