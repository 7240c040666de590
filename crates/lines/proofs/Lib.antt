-- Where a reader stops and what it takes; what a statement does; each kind of line, and which it is; registers counted ahead.
pub mod Opened
pub mod ActionLaws
pub mod StatementLaws
pub mod NamedLaws
pub mod WordChoice
pub mod RangeLaws
pub mod LineLaws
pub mod WordLines
pub mod TimedLaws
pub mod RegisterLines
pub mod CountLaws
pub mod DispatchLaws
