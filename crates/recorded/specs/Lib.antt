-- Following what the machine recorded (02, ticket 9): the rule, what the recorder writes, rows worked out by hand, and what is claimed of
-- the whole.
pub mod Follow
pub mod Recorder
pub mod Worked
pub mod Claims
