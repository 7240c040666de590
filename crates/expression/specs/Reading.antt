-- What reading gives, from the rules' reading of the same bytes.
use Rattle.std.specs.Prelude.{ℕ, Result, Ok, Err}
use Rattle.rules.specs.Program.{Arith, Condition}
use Rattle.rules.specs.Format.{Bytes, Got, bad, got, and_then, read_arith}
use Rattle.refusal.specs.Shape.{refusal_of}
use Rattle.refusal.specs.declared.Refusal.{Refusal}

-- where a reading ends, or its refusal
abbrev pub parsed_of : {A : Type 0} → Got A → Result ℕ Refusal
parsed_of (bad r p) = Err (refusal_of r)
parsed_of (got a q) = Ok q

-- the two sides of a comparison, one after the other, as the rules read them
abbrev pub pair_at : ℕ → Bytes → ℕ → ℕ → ℕ → (Arith → Arith → Condition) → Got Condition
pair_at d s e n p f = and_then (read_arith d s e n p) (λ a q. and_then (read_arith d s e n q) (λ b r. got (f a b) r))
