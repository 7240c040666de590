-- Evaluation on the bytes is evaluation of the tree that they read as, by the kind that stands at its place. Assumes nothing.
use Prim.Native.Nat.{ℕ, ◌+◌, ◌-◌, ◌<◌}
use mathlib.Core.Path.{◌≡◌, refl, sym, ap, ◌∙◌}
use mathlib.Core.List.{List, map}
use lib.ListN.{get_or, get_or-map}
use lib.Seq.{get_or-take}
use Rattle.rules.specs.Refusal.{on_both}
use Rattle.rules.specs.Constants.{half32}
use Rattle.rules.specs.Interval.{Operator, combine}
use Rattle.rules.specs.Program.{operation}
use Rattle.rules.specs.Expression.{Regs, zero_interval, evaluate}
use Rattle.rules.specs.Format as F
use Rattle.rules.specs.Expression as E
use Rattle.rules.specs.Format.{Bytes, Got, bad, got, and_then, arith_at, read_constant, read_register, read_arith}
use Rattle.interval.specs.declared.Span.{Span}
use Rattle.interval.specs.Shape.{interval_of, zero_span}
use Rattle.expression.specs.Evaluation.{regs_of, Found, unread, read, found_of, evaluated_in}
use Rattle.expression.proofs.kind.Laws.{operands, arith_by, arith-read}

-- ---- registers

pub regs_get : (n : ℕ) (l : List Span) (r : ℕ) → r < n → interval_of (get_or l r zero_span) ≡ get_or (regs_of n l) r zero_interval
unfolding regs_of
regs_get n l r h = sym (get_or-take n (map interval_of l) r zero_interval h ∙ get_or-map interval_of l r zero_span)

-- what a proof on one register opens
unfoldable pub register : Unit {0}
unfolding F.read_register F.need E.evaluate
register = tt

-- ---- what is worked out on one tree, and on two, one behind the other

-- go on with what was worked out, and the place behind it
abbrev pub and_found : {A B : Type 0} → Found A → (A → ℕ → Found B) → Found B
and_found unread f = unread
and_found (read a q) f = f a q

pub one-found : {A B X : Type 0} (F : A → X) (H : B → X) (f : A → B) → ((a : A) → H (f a) ≡ F a) → (g : Got A) → found_of H (and_then g (λ a q. got (f a) q)) ≡ found_of F g
unfolding and_then
one-found F H f hom (bad r p) = refl
one-found F H f hom (got a q) = ap (λ x. read x q) (hom a)

-- F is worked out on the first, G on the second with what F gave, and H on what f makes of them: k joins the results, with the place
-- between them
module _ {A B C X Y Z : Type 0} (F : A → X) (G : X → B → Y) (H : C → Z) (f : A → B → C) (k : X → ℕ → Y → Z) where
  second-found : (a : A) (q : ℕ) (g : Got B) → ((b : B) (r : ℕ) → g ≡ got b r → H (f a b) ≡ k (F a) q (G (F a) b))
      → found_of H (and_then g (λ b r. got (f a b) r)) ≡ and_found (found_of (G (F a)) g) (λ y r. read (k (F a) q y) r)
  unfolding and_then
  second-found a q (bad r p) hom = refl
  second-found a q (got b r) hom = ap (λ z. read z r) (hom b r refl)

  pub both-found : (g : Got A) (h : ℕ → Got B) → ((a : A) (q : ℕ) (b : B) (r : ℕ) → g ≡ got a q → h q ≡ got b r → H (f a b) ≡ k (F a) q (G (F a) b))
      → found_of H (and_then g (λ a q. and_then (h q) (λ b r. got (f a b) r))) ≡ and_found (found_of F g) (λ x q. and_found (found_of (G x) (h q)) (λ y r. read (k x q y) r))
  unfolding and_then
  both-found (bad r p) h hom = refl
  both-found (got a q) h hom = second-found a q (h q) (λ b r e. hom a q b r refl e)

-- ---- an expression: where some depth d is left, and where none is

module _ (rs : Regs) (s : Bytes) (e n p d : ℕ) where
  operands-found : (o : Operator) → evaluated_in rs (operands (d - 1) s e n (p + 1) o)
      ≡ and_found (evaluated_in rs (read_arith (d - 1) s e n (p + 1)))
      (λ x q. and_found (evaluated_in rs (read_arith (d - 1) s e n q)) (λ y r. read (on_both (combine half32 o) x y) r))
  unfolding evaluate
  operands-found o =
      both-found (λ a. evaluate a rs) (λ _ b. evaluate b rs) (λ a. evaluate a rs) (operation o) (λ x q y. on_both (combine half32 o) x y)
      (read_arith (d - 1) s e n (p + 1)) (λ q. read_arith (d - 1) s e n q) (λ a q b r _ _. refl)

  pub evaluated_is : (d ≡ 0 → ⊥) → evaluated_in rs (read_arith d s e n p)
      ≡ arith_by (arith_at s e p) (evaluated_in rs (read_constant s e (p + 1))) (evaluated_in rs (read_register s e n (p + 1)))
      (λ o. and_found (evaluated_in rs (read_arith (d - 1) s e n (p + 1)))
      (λ x q. and_found (evaluated_in rs (read_arith (d - 1) s e n q)) (λ y r. read (on_both (combine half32 o) x y) r))) unread
  evaluated_is = arith-read (evaluated_in rs) s e n p d _ operands-found

  pub evaluated_unread : d ≡ 0 → evaluated_in rs (read_arith d s e n p) ≡ unread
  unfolding read_arith
  evaluated_unread z = rw z

pub ruleset evaluated_laws = (evaluated_is, evaluated_unread)
