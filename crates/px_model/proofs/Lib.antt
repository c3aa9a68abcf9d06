pub mod CellLaws
pub mod FaceLaws
pub mod FindLemmas
pub mod GridLaws
pub mod PixelsLaws
pub mod PlaneLaws
pub mod SolidLemmas
