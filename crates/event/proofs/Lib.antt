-- Laws of events: a plan from an index, states on the stack, and what each kind of statement does.
pub mod PlanLaws
pub mod PushLaws
pub mod ActLaws
