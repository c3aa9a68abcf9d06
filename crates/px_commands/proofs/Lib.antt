pub mod CommandLemmas
pub mod FrontLaws
pub mod LimitLaws
pub mod RunLaws
pub mod StopLaws
