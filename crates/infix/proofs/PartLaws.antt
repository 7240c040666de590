-- What is printed of a reading, from what is printed of its parts.
use Rattle.std.specs.Prelude.{Option, Some}
use mathlib.Core.Path.{◌≡◌, subst, sym, ap, ◌∙◌}
use mathlib.Core.List.{◌++◌}
use Prim.Native.Nat.{ℕ}
use Rattle.rules.specs.Refusal.{Refusal}
use Rattle.rules.specs.Format.{Bytes, Got, bad, got, and_then}
use Rattle.writing.specs.Out.{Writes}
use Rattle.writing.proofs.Written.{then-writes, same_text}
use Rattle.infix.specs.Prints.{Prints}
use Rattle.infix.specs.declared.Walked.{Walked}

-- ---- the kind of what stands at a place

-- where the code's kind is some v, the rule's is v's
pub kind-is : {K J : Type 0} (f : Option K → J) {o : Option K} {k v : K} {j : J} → f o ≡ j → o ≡ Some k → k ≡ v → j ≡ f (Some v)
kind-is f e h i = sym e ∙ ap f h ∙ ap (λ x. f (Some x)) i

-- ---- one reading

module _ {A : Type 0} (F : A → Bytes) (l m : Bytes) (at : ℕ) (w : Walked) where
  pub prints-as : {g h : Got A} → g ≡ h → Prints F g l at m w → Prints F h l at m w
  prints-as e p = subst (λ (x : Got A). Prints F x l at m w) e p

  pub prints-got : {g : Got A} {a : A} {q : ℕ} → got a q ≡ g → w.next ≡ q → Writes (F a) l at m w.at → Prints F g l at m w
  unfolding Prints
  prints-got e n h = prints-as e (n, h)

  -- where nothing reads
  pub prints-bad : {g : Got A} {r : Refusal} {p : ℕ} → bad r p ≡ g → Prints F g l at m w
  unfolding Prints
  prints-bad e = prints-as e tt

  pub got-prints : {g : Got A} {a : A} {q : ℕ} → g ≡ got a q → Prints F g l at m w → Writes (F a) l at m w.at
  unfolding Prints
  got-prints {a = a} {q} e p = let h : Prints F (got a q) l at m w = prints-as e p in h.1

-- ---- two parts, one behind the other, with what stands before, between and behind them

module _ {A B C : Type 0} (F : A → Bytes) (G : B → Bytes) (H : C → Bytes) (f : A → B → C) (first middle last : Bytes)
    (whole : (a : A) (b : B) → first ++ (F a ++ (middle ++ (G b ++ last))) ≡ H (f a b))
    (l₀ l₁ l₂ l₃ l₄ l₅ : Bytes) (a₀ a₁ a₃ : ℕ) (v w r : Walked) where
  second : (a : A) (k : Got B) → Writes first l₀ a₀ l₁ a₁ → Writes (F a) l₁ a₁ l₂ v.at → Writes middle l₂ v.at l₃ a₃ → Prints G k l₃ a₃ l₄ w
      → r.next ≡ w.next → Writes last l₄ w.at l₅ r.at → Prints H (and_then k (λ b q. got (f a b) q)) l₀ a₀ l₅ r
  unfolding Prints and_then
  second a (bad n p) e₁ e₂ e₃ e₄ n₅ e₅ = tt
  second a (got b q) e₁ e₂ e₃ e₄ n₅ e₅ = (
    n₅ ∙ e₄.0,
    same_text _ _ l₀ l₅ a₀ r.at (whole a b)
        (then-writes first _ l₀ l₁ l₅ a₀ a₁ r.at e₁ (then-writes (F a) _ l₁ l₂ l₅ a₁ v.at r.at e₂
        (then-writes middle _ l₂ l₃ l₅ v.at a₃ r.at e₃ (then-writes (G b) last l₃ l₄ l₅ a₃ w.at r.at e₄.1 e₅)))),
  )

  pub both-print : (g : Got A) (h : ℕ → Got B) → Writes first l₀ a₀ l₁ a₁ → Prints F g l₁ a₁ l₂ v → Writes middle l₂ v.at l₃ a₃ → Prints G (h v.next) l₃ a₃ l₄ w
      → r.next ≡ w.next → Writes last l₄ w.at l₅ r.at → Prints H (and_then g (λ a q. and_then (h q) (λ b p. got (f a b) p))) l₀ a₀ l₅ r
  unfolding Prints and_then
  both-print (bad n p) h e₁ e₂ e₃ e₄ n₅ e₅ = tt
  both-print (got a q) h e₁ e₂ e₃ e₄ n₅ e₅ = second a (h q) e₁ e₂.1 e₃ (subst (λ (n : ℕ). Prints G (h n) l₃ a₃ l₄ w) e₂.0 e₄) n₅ e₅

-- one part, with what stands before it
pub one-prints : {A C : Type 0} (F : A → Bytes) (H : C → Bytes) (f : A → C) (first : Bytes) → ((a : A) → first ++ F a ≡ H (f a))
    → (g : Got A) (l₀ l₁ l₂ : Bytes) (a₀ a₁ : ℕ) (w : Walked) → Writes first l₀ a₀ l₁ a₁ → Prints F g l₁ a₁ l₂ w → Prints H (and_then g (λ a q. got (f a) q)) l₀ a₀ l₂ w
unfolding Prints and_then
one-prints F H f first whole (bad r p) l₀ l₁ l₂ a₀ a₁ w e₁ e₂ = tt
one-prints F H f first whole (got a q) l₀ l₁ l₂ a₀ a₁ w e₁ e₂ = (e₂.0, same_text _ _ l₀ l₂ a₀ w.at (whole a) (then-writes first (F a) l₀ l₁ l₂ a₀ a₁ w.at e₁ e₂.1))
