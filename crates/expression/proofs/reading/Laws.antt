-- Reading alone: where an expression or a condition ends, or its refusal, by the kind that stands at its place. Assumes nothing.
use Prim.Native.Nat.{ℕ, ◌+◌, ◌-◌}
use Rattle.std.specs.Prelude.{◌≡◌, Result, Ok, Err}
use mathlib.Core.Path.{refl}
use Rattle.rules.specs.Program.{operation, negation, conjunction}
use Rattle.rules.specs.Format.{Bytes, Got, bad, got, and_then, arith_at, read_constant, read_register, read_arith, condition_at, read_condition}
use Rattle.refusal.specs.declared.Refusal.{Refusal}
use Rattle.refusal.specs.declared.Refusal.TheVariants.{BadExpression}
use Rattle.expression.specs.Reading.{parsed_of, pair_at}
use Rattle.expression.proofs.kind.Laws.{arith_by, arith-read, condition_by, condition-read}

-- a second reading where the first ends
abbrev pub then_parsed : Result ℕ Refusal → (ℕ → Result ℕ Refusal) → Result ℕ Refusal
then_parsed (Err r) h = Err r
then_parsed (Ok q) h = h q

one-ends : {A B : Type 0} (f : A → B) (g : Got A) → parsed_of (and_then g (λ a q. got (f a) q)) ≡ parsed_of g
unfolding and_then
one-ends f (bad r p) = refl
one-ends f (got a q) = refl

both-end : {A B C : Type 0} (f : A → B → C) (g : Got A) (h : ℕ → Got B)
    → parsed_of (and_then g (λ a q. and_then (h q) (λ b r. got (f a b) r))) ≡ then_parsed (parsed_of g) (λ q. parsed_of (h q))
unfolding and_then
both-end f (bad r p) h = refl
both-end f (got a q) h = one-ends (f a) (h q)

-- where some depth d is left, and where none is
module _ (s : Bytes) (e n p d : ℕ) where
  pub arith_ends : (d ≡ 0 → ⊥) → parsed_of (read_arith d s e n p)
      ≡ arith_by (arith_at s e p) (parsed_of (read_constant s e (p + 1))) (parsed_of (read_register s e n (p + 1)))
      (λ _. then_parsed (parsed_of (read_arith (d - 1) s e n (p + 1))) (λ q. parsed_of (read_arith (d - 1) s e n q))) (Err BadExpression)
  arith_ends = arith-read parsed_of s e n p d _ (λ o. both-end (operation o) (read_arith (d - 1) s e n (p + 1)) (λ q. read_arith (d - 1) s e n q))

  pub arith_refused : d ≡ 0 → parsed_of (read_arith d s e n p) ≡ Err BadExpression
  unfolding read_arith
  arith_refused z = rw z

  pub condition_ends : (d ≡ 0 → ⊥) → parsed_of (read_condition d s e n p)
      ≡ condition_by (condition_at s e p) (λ _. Ok (p + 1)) (parsed_of (read_condition (d - 1) s e n (p + 1)))
      (then_parsed (parsed_of (read_condition (d - 1) s e n (p + 1))) (λ q. parsed_of (read_condition (d - 1) s e n q)))
      (λ f. parsed_of (pair_at (d - 1) s e n (p + 1) f)) (Err BadExpression)
  condition_ends =
      condition-read parsed_of s e n p d _ _ (one-ends negation (read_condition (d - 1) s e n (p + 1)))
      (both-end conjunction (read_condition (d - 1) s e n (p + 1)) (λ q. read_condition (d - 1) s e n q))

  pub condition_refused : d ≡ 0 → parsed_of (read_condition d s e n p) ≡ Err BadExpression
  unfolding read_condition
  condition_refused z = rw z
