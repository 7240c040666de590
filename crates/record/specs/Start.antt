-- What reading starting values gives.
use Rattle.std.specs.Prelude.{◌≡◌, ℕ, ◌<◌, List, length, ℤ, Result}
use Rattle.rules.specs.Program.{Program}
use Rattle.rules.specs.Format.{Got}
use Rattle.rules.specs.Run as R
use Rattle.refusal.specs.declared.Fault.{Fault}
use Rattle.interval.specs.declared.Val.{Val}
use Rattle.expression.specs.Evaluation.{regs_of}
use Rattle.reader.specs.Facts.{thread_in}
use Rattle.state.specs.declared.State.{State}
use Rattle.state.specs.Access.{thread_at}
use Rattle.record.specs.Known.{number_of, values_of}
use Rattle.record.specs.Replay.{threads_of}
use Rattle.record.specs.Reached.{got_of}
use Rattle.record.specs.declared.replay.RunThread.{RunThread}

abbrev pub value_got : Result (Val × ℕ) Fault → Got ℤ
value_got = got_of number_of

abbrev pub values_got : ℕ → Result (List Val × ℕ) Fault → Got (List ℤ)
values_got n = got_of (values_of n)

abbrev pub threads_got : List ℕ → Result (List RunThread × ℕ) Fault → Got (List R.RunThread)
threads_got ns = got_of (threads_of ns)

-- the spans of the search's starting state are the ranges of the program's variables and registers
pub record StartsFrom (g : Program) (first : State) : Type 0 where
  pub vars : regs_of (length g.vars) first.vars ≡ g.vars
  pub regs : (t : ℕ) → t < length g.threads → regs_of (length (thread_in g t).regs) (thread_at first t).regs ≡ (thread_in g t).regs
