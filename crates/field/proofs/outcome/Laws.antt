-- From the code's answer back to what the rules gave.
use Rattle.std.specs.Prelude.{◌≡◌, Bool, true, false, ℕ, List, length, Result, Ok, Err, IsErrAnd}
use Rattle.std.proofs.Common.{refl, sym, ap, ◌∙◌}
use Rattle.std.proofs.lemmas.Result.{err_from_is_err_and}
use Rattle.rules.specs.Refusal as R
use Rattle.rules.specs.Format.{Got, bad, got, Here, wrong, more, done}
use Rattle.refusal.specs.declared.Refusal.{Refusal}
use Rattle.refusal.specs.declared.Fault.{Fault}
use Rattle.refusal.specs.Shape.{refusal_of, rule_of, fault_at}
use Rattle.refusal.proofs.Laws.{rule-of-refusal, refusal-of-rule}
use Rattle.field.specs.declared.outcome.Counted.{Counted}
use Rattle.field.specs.Outcome.{needed, end_of, next_of, count_of}

-- ---- the code's refusals and the rules'

pub same-rule : (k : R.Refusal) {r : Refusal} → refusal_of k ≡ r → k ≡ rule_of r
same-rule k h = sym (rule-of-refusal k) ∙ ap rule_of h

-- a fault is one of the rules
pub fault-is : (k : R.Refusal) (p : ℕ) {f : Fault} → f ≡ fault_at k p → (k ≡ rule_of f.refusal) × (p ≡ f.place)
fault-is k p e = (same-rule k (ap (λ (x : Fault). x.refusal) (sym e)), ap (λ (x : Fault). x.place) (sym e))

pub fault-back : (f : Fault) → fault_at (rule_of f.refusal) f.place ≡ f
fault-back f = λ i. record { refusal = refusal-of-rule f.refusal i; place = f.place }

-- ---- a check, and the exit of a `?`

pub needed-held : (b : Bool) (r : Refusal) (p : ℕ) → Ok tt ≡ needed b r p → b ≡ true
needed-held true r p e = refl
needed-held false r p e = absurd (cc)

pub needed-failed : (b : Bool) (r : Refusal) (p : ℕ) {f : Fault} → Err f ≡ needed b r p → (b ≡ false) × (f ≡ record { refusal = r; place = p })
needed-failed true r p e = absurd (cc)
needed-failed false r p {f} e = (refl, let h : f ≡ record { refusal = r; place = p } = cc in h)

pub exits : {A : Type 0} {f : Fault} {r x : Result A Fault} → IsErrAnd r (λ y. y ≡ f) → Err f ≡ x → r ≡ x
exits {r = r} h e = let p = err_from_is_err_and r h in p.1 ∙ ap Err p.2 ∙ e

-- ---- back from the code's answer

pub got_of : {A : Type 0} {q : ℕ} (g : Got A) → Ok q ≡ end_of g → (a : A) × (g ≡ got a q)
got_of (bad r p) e = absurd (cc)
got_of {q = q} (got a k) e = (a, let h : k ≡ q = cc in ap (got a) h)

pub bad-of : {A : Type 0} {f : Fault} (g : Got A) → Err f ≡ end_of g → g ≡ bad (rule_of f.refusal) f.place
bad-of {f = f} (bad k m) e = let h : f ≡ fault_at k m = cc in let w = fault-is k m h in λ j. bad (w.0 j) (w.1 j)
bad-of (got a k) e = absurd (cc)

pub next-wrong : {at : ℕ} {f : Fault} (k : Here) → Err f ≡ next_of at k → (k ≡ wrong (rule_of f.refusal)) × (at ≡ f.place)
next-wrong {at = at} {f = f} (wrong r) e = let h : f ≡ fault_at r at = cc in let w = fault-is r at h in (ap wrong w.0, w.1)
next-wrong more e = absurd (cc)
next-wrong done e = absurd (cc)

pub next_more : (at : ℕ) (k : Here) {b : Bool} → Ok b ≡ next_of at k → b ≡ true → k ≡ more
next_more at (wrong r) e t = absurd (cc)
next_more at more e t = refl
next_more at done {b} e t = let z : b ≡ false = cc in absurd (cc)

pub next-done : (at : ℕ) (k : Here) {b : Bool} → Ok b ≡ next_of at k → b ≡ false → k ≡ done
next-done at (wrong r) e t = absurd (cc)
next-done at more {b} e t = let z : b ≡ true = cc in absurd (cc)
next-done at done e t = refl

-- ---- and to it

pub fails : {A : Type 0} {G : Got (List A)} {f : Fault} → G ≡ bad (rule_of f.refusal) f.place → Err f ≡ count_of G
fails {f = f} e = sym (ap count_of e ∙ ap Err (fault-back f))

pub finds : {A : Type 0} {G : Got (List A)} {xs : List A} {c : Counted} → G ≡ got xs c.end → length xs ≡ c.count → Ok c ≡ count_of G
finds {c = c} e h = sym (ap count_of e ∙ λ i. Ok (record { count = h i; end = c.end }))
