-- A statement as the code decodes it at a place: from the bytes, and from the statement of the program.
use Rattle.std.specs.Prelude.{Bool, true, false, ℕ, ◌+◌, eqb, if◌then◌else◌}
use Rattle.rules.specs.Program as R
use Rattle.rules.specs.Format.{Bytes, byte, num16}
use Rattle.field.specs.Ticks.{tick}
use Rattle.field.specs.declared.decoding.Action.{Action}
use Rattle.field.specs.declared.decoding.Action.TheVariants.{Halt, Skip, Assign, Branch, Store, Load, Unlock, Lock}
use Rattle.field.specs.declared.decoding.Statement.{Statement}

-- the place behind the body of the field at p
abbrev pub body_end : Bytes → ℕ → ℕ
body_end s p = p + 3 + num16 s (p + 1)

-- ---- from the bytes

-- a code, the two bytes behind it, and from where to where an expression stands
unfoldable pub decode_action : ℕ → ℕ → ℕ → ℕ → ℕ → Action
decode_action c a b at end =
    if eqb c 0 then Halt
    else if eqb c 1 then Skip
    else if eqb c 2 then Assign a at end
    else if eqb c 3 then Branch a at end
    else if eqb c 4 then Store a b
    else if eqb c 5 then Load a b
    else if eqb c 6 then Unlock a
    else Lock a

abbrev pub action_at : Bytes → ℕ → Action
action_at s p = decode_action (byte s (p + 7)) (byte s (p + 8)) (byte s (p + 9)) (p + 9) (body_end s p)

abbrev pub statement_at : Bytes → ℕ → Statement
statement_at s p = record { least = tick (num16 s (p + 3)); greatest = tick (num16 s (p + 5)); action = action_at s p }

-- ---- from the program: of an expression, from where to where it stands

unfoldable pub action_of : ℕ → ℕ → R.Action → Action
action_of at end R.halt = Halt
action_of at end R.skip = Skip
action_of at end (R.assign r a) = Assign r at end
action_of at end (R.branch t c) = Branch t at end
action_of at end (R.store r v) = Store r v
action_of at end (R.load r v) = Load r v
action_of at end (R.unlock l) = Unlock l
action_of at end (R.lock l) = Lock l

abbrev pub statement_of : Bytes → R.Statement → Statement
statement_of s x = record { least = tick x.least; greatest = tick x.greatest; action = action_of (x.place + 9) (body_end s x.place) x.action }

-- ---- which action halts

abbrev pub halts : Action → Bool
halts Halt = true
halts Skip = false
halts (Assign r at e) = false
halts (Branch t at e) = false
halts (Store r v) = false
halts (Load r v) = false
halts (Unlock l) = false
halts (Lock l) = false
