pub mod Countings
pub mod Sample
pub mod SampleLaw
pub mod Samples
