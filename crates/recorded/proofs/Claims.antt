-- The claims of `specs/Claims.antt`, proved.
use Rattle.rules.proofs.Demands.{accepted_holds}
use Rattle.recorded.specs.Claims.{FollowClaims}
use Rattle.recorded.proofs.Worked.{rows_hold}
use Rattle.recorded.proofs.Gaps.{run-gaps}
use Rattle.recorded.proofs.Written.{tick_recovered}
use Rattle.recorded.proofs.Refusals.{sheet_first, refused_unfinished, run_file_and_place, sheet_numbers, record_numbers}
use Rattle.recorded.proofs.Answers.{run_replayed, run_followed, fault_followed, event_refused, too_long_lem, followed_run, in_label}

pub follow-claims : FollowClaims
follow-claims = record {
  rows_hold = rows_hold;
  gaps = run-gaps;
  tick_recovered = tick_recovered;
  run_replayed = run_replayed;
  run_followed = run_followed;
  fault_followed = fault_followed;
  event_refused = event_refused;
  too_long_lem = too_long_lem;
  followed_run = followed_run;
  in_label = in_label;
  accepted_in_label = λ sheet r n a. in_label sheet r (accepted_holds sheet n a);
  sheet_first = sheet_first;
  refused_unfinished = refused_unfinished;
  run_file_and_place = run_file_and_place;
  sheet_numbers = sheet_numbers;
  record_numbers = record_numbers;
}
