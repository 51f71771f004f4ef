pub mod PlanOfGroups
pub mod Laws
pub mod CallingPlans
