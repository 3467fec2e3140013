pub mod Once
pub mod Certain
pub mod Stages
pub mod PlanKinds
pub mod Alike
