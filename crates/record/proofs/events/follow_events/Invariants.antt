-- What the loop of `record::events::follow_events` keeps, and what falls: what is left to follow gives what the whole gives, and
-- the tick is small by the place.
use Rattle.std.proofs.Common.{◌≡◌, ◌-◌, ◌*◌, ◌≤◌, length}
use Rattle.recorded.specs.Follow.{follow_from}
use Rattle.record.specs.Replay.{replay_of}
use Rattle.record.specs.Sheet.{program_of, sizes_in}
use Rattle.record.proofs.events.follow_events.Given as goal

abbrev pub invariant-loop-at : goal.invariant-loop-at
invariant-loop-at l = record {
  soon : l.x.tick.0 ≤ l.at * 65535;
  left : follow_from (program_of l.sheet) l.r l.initial.at (replay_of (sizes_in l.sheet) l.initial.x)
      ≡ follow_from (program_of l.sheet) l.r l.at (replay_of (sizes_in l.sheet) l.x);
}

abbrev pub decreases-loop-at : goal.decreases-loop-at
decreases-loop-at l = length l.r - l.at
