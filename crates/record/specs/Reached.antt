-- Where following came to, in the rules.
use Rattle.std.specs.Prelude.{ℕ, Result, Ok, Err}
use Rattle.rules.specs.Format.{Got, bad, got}
use Rattle.refusal.specs.declared.Fault.{Fault}
use Rattle.refusal.specs.Shape.{rule_of}
use Rattle.state.specs.Shape.{Sizes}
use Rattle.recorded.specs.Follow as F
use Rattle.record.specs.Replay.{replay_of}
use Rattle.record.specs.declared.replay.Replay.{Replay}

-- what was read and the place behind it, where f says what it is in the rules; or a fault
abbrev pub got_of : {A B : Type 0} → (A → B) → Result (A × ℕ) Fault → Got B
got_of f (Ok (a, q)) = got (f a) q
got_of f (Err e) = bad (rule_of e.refusal) e.place

-- the same of a place alone, with what was lent as it is then
abbrev pub placed : {A : Type 0} → A → Result ℕ Fault → Got A
placed a (Ok q) = got a q
placed a (Err e) = bad (rule_of e.refusal) e.place

abbrev pub reached_of : Sizes → Result (Replay × ℕ) Fault → Got F.Replay
reached_of z = got_of (replay_of z)
