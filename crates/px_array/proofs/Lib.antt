pub mod ClockLaws
pub mod WorkLaws
