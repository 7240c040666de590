-- What the code keeps of a reading: the place behind it or the refusal, not the tree. The readings are those of `rules`.
use Rattle.std.specs.Prelude.{Bool, true, false, ℕ, eqb, List, length, if◌then◌else◌, Result, Ok, Err}
use Rattle.rules.specs.Refusal.{bad_expression}
use Rattle.rules.specs.Format as rules
use Rattle.rules.specs.Format.{Got, bad, got, Here, wrong, more, done}
use Rattle.refusal.specs.declared.Refusal.{Refusal}
use Rattle.refusal.specs.declared.Fault.{Fault}
use Rattle.refusal.specs.Shape.{fault_at}
use Rattle.field.specs.declared.operands.Names.{Names}
use Rattle.field.specs.declared.outcome.Counted.{Counted}

-- a check: nothing, or where it does not hold, a refusal and its place
abbrev pub needed : Bool → Refusal → ℕ → Result (Unit {0}) Fault
needed b r p = if b then Ok tt else Err (record { refusal = r; place = p })

-- whether it was read: nothing, or the refusal and its place
abbrev pub check_of : {A : Type 0} → Got A → Result (Unit {0}) Fault
check_of (bad r p) = Err (fault_at r p)
check_of (got a q) = Ok tt

-- the place behind what was read, or the refusal and its place
abbrev pub end_of : {A : Type 0} → Got A → Result ℕ Fault
end_of (bad r p) = Err (fault_at r p)
end_of (got a q) = Ok q

-- whether one more stands at a place, or the refusal, whose place that is
abbrev pub next_of : ℕ → Here → Result Bool Fault
next_of at (wrong r) = Err (fault_at r at)
next_of at more = Ok true
next_of at done = Ok false

-- how many were read and the place behind them, or the refusal and its place
abbrev pub count_of : {A : Type 0} → Got (List A) → Result Counted Fault
count_of (bad r p) = Err (fault_at r p)
count_of (got xs q) = Ok (record { count = length xs; end = q })

-- an expression in the body of the field at a place, which is to end at e
abbrev pub exact_end : ℕ → ℕ → Result ℕ Refusal → Result ℕ Fault
exact_end at e (Ok q) = if eqb q e then Ok q else Err (fault_at bad_expression at)
exact_end at e (Err r) = Err (record { refusal = r; place = at })

abbrev pub names_of : Names → rules.Names
names_of n = record { regs = n.regs; vars = n.vars; locks = n.locks }
