-- What the loop of `record::starting::start_values` keeps: what is left to read gives what the whole gives.
use Rattle.std.proofs.Common.{◌≡◌, [], map, length}
use Rattle.interval.specs.Shape.{interval_of}
use Rattle.recorded.specs.Follow.{start_values}
use Rattle.record.proofs.starting.Laws.{values_from}
use Rattle.record.proofs.starting.start_values.Given as goal

abbrev pub invariant-loop-k : goal.invariant-loop-k
invariant-loop-k l = record {
  eight : length l.values ≡ 8;
  left : start_values (map interval_of l.ranges) [] l.r l.initial.at ≡ values_from l.ranges l.r l.k l.values l.at;
}
