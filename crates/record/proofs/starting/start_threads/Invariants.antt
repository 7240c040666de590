-- What the loop of `record::starting::start_threads` keeps: what is left to read gives what the whole gives.
use Rattle.std.proofs.Common.{◌≡◌, [], length}
use Rattle.recorded.specs.Follow.{start_threads}
use Rattle.record.specs.Sheet.{program_of}
use Rattle.record.proofs.starting.Laws.{threads_from}
use Rattle.record.proofs.starting.start_threads.Given as goal

abbrev pub invariant-loop-t : goal.invariant-loop-t
invariant-loop-t l = record {
  four : length l.threads ≡ 4;
  left : start_threads (program_of l.sheet).threads [] l.r l.initial.at ≡ threads_from (program_of l.sheet) l.r l.t l.threads l.at;
}
