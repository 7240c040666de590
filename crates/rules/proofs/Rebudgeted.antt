-- The sheet with another budget in its four bytes reads as the same program but for its budget.
use mathlib.Core.Path.{◌≡◌, refl, sym, subst}
use mathlib.Core.Bool.{Bool, true, false, ◌&&◌}
use Prim.Native.Nat.{ℕ, ◌≤◌}
use native.Mathlib.Nat.{le_trans}
use native.Mathlib.Omega.{arith}
use lib.Dec.{T, leb, eqb, leb→le, le→leb}
use lib.ListN.{length}
use Rattle.rules.specs.Refusal.{Refusal, short, out_of_turn, bad_length, off_range, too_long}
use Rattle.rules.specs.Constants.{longest_sheet, greatest_limit, greatest_budget}
use Rattle.rules.specs.Program.{Program}
use Rattle.rules.specs.Format.{Bytes, Got, bad, got, and_then, need, num16, num32, has_head, has_body, due, sized, header_fits, read_header, read_locks, read_variables, read_threads, read_sheet}
use Rattle.rules.specs.Budget.{budget_in, SameButBudget, header_with, rebudgeted}
use Rattle.rules.proofs.Base.{and_left, and_right, and_both}
use Rattle.rules.proofs.Alike.{Alike}
use Rattle.rules.proofs.AlikeFields.{SameFrom, num32-same, locks-alike, variables-alike}
use Rattle.rules.proofs.AlikeThreads.{threads-alike}

-- ---- a reading that, where it succeeds, stands for another: the value changed by f, the place the same and at k or behind it

abbrev Into : {A B : Type 0} → (A → B) → ℕ → Got A → Got B → Type 0
Into f k (bad r p) y = Unit {0}
Into f k (got a q) y = (y ≡ got (f a) q) × (k ≤ q)

need-into : {A B : Type 0} (f : A → B) (k : ℕ) (b c : Bool) → (T b → T c) → (r : Refusal) (at : ℕ) (x : Got A) (y : Got B) → (T b → Into f k x y) → Into f k (need b r at x) (need c r at y)
unfolding need
need-into f k false c i r at x y h = tt
need-into f k true true i r at x y h = h tt
need-into f k true false i r at x y h = absurd (i tt)

then-into : {A B C D : Type 0} (f : A → B) (g : C → D) (k : ℕ) (x : Got A) (y : Got B) (u : A → ℕ → Got C) (v : B → ℕ → Got D) → Into f k x y
    → ((a : A) (q : ℕ) → k ≤ q → Into g k (u a q) (v (f a) q)) → Into g k (and_then x u) (and_then y v)
unfolding and_then
then-into f g k (bad r p) y u v h l = tt
then-into {B} f g k (got a q) y u v h l = subst (λ (z : Got B). Into g k (u a q) (and_then z v)) (sym h.0) (l a q h.1)

alike-into : {A : Type 0} (k : ℕ) (x y : Got A) → Alike k x y → Into (λ (a : A). a) k x y
alike-into k (bad r p) y h = tt
alike-into k (got a q) y h = (sym h.0, h.1)

-- ---- the header

fits_more : (limit b c low high : ℕ) → b ≤ c → c ≤ greatest_budget → T (header_fits limit b low high) → T (header_fits limit c low high)
unfolding header_fits
fits_more limit b c low high h l t =
    let lim = leb 1 limit && leb limit greatest_limit in
    let lab = leb low high && leb high limit in
    let rest = and_right lim ((leb 1 b && leb b greatest_budget) && lab) t in
    let one : 1 ≤ b = leb→le 1 b (and_left (leb 1 b) (leb b greatest_budget) (and_left (leb 1 b && leb b greatest_budget) lab rest)) in
    and_both lim ((leb 1 c && leb c greatest_budget) && lab) (and_left lim ((leb 1 b && leb b greatest_budget) && lab) t)
    (and_both (leb 1 c && leb c greatest_budget) lab (and_both (leb 1 c) (leb c greatest_budget) (le→leb 1 c (le_trans one h)) (le→leb c greatest_budget l))
    (and_right (leb 1 b && leb b greatest_budget) lab rest))

module _ (s t : Bytes) (same : SameButBudget s t) (larger : budget_in s ≤ budget_in t) (in-range : budget_in t ≤ greatest_budget) where
  abbrev b : ℕ
  b = budget_in t

  -- what stands behind the budget
  behind : SameFrom 11 s t
  behind = record { same_length = same.same_length; same = same.same_behind }

  limit-same : num32 s 3 ≡ num32 t 3
  unfolding num32
  limit-same =
      let a = same.same_before 3 (omega arith) in
      let c = same.same_before 4 (omega arith) in
      let d = same.same_before 5 (omega arith) in
      let e = same.same_before 6 (omega arith) in cc

  length-field : num16 s 1 ≡ num16 t 1
  length-field = let a = same.same_before 1 (omega arith) in let c = same.same_before 2 (omega arith) in cc

  has_body_lem : has_body s 0 ≡ has_body t 0
  unfolding has_body
  has_body_lem = let a = length-field in let c = same.same_length in cc

  header-into : Into (header_with b) 11 (read_header s) (read_header t)
  unfolding read_header due sized has_head
  header-into =
      let limit = limit-same in
      let low = num32-same 11 s t behind 11 (omega arith) in
      let high = num32-same 11 s t behind 15 (omega arith) in
      need-into (header_with b) 11 _ _ (subst (λ (n : ℕ). T (leb 3 n)) same.same_length) short 0 _ _ (λ _.
      need-into (header_with b) 11 _ _ (subst (λ (n : ℕ). T (eqb n 1)) (same.same_before 0 (omega arith))) out_of_turn 0 _ _ (λ _.
      need-into (header_with b) 11 _ _ (subst T has_body_lem) short 0 _ _ (λ _.
      need-into (header_with b) 11 _ _ (subst (λ (n : ℕ). T (eqb n 16)) length-field) bad_length 0 _ _ (λ _.
      need-into (header_with b) 11 _ _
      (λ h. subst T (λ i. header_fits (limit i) b (low i) (high i)) (fits_more (num32 s 3) (budget_in s) b (num32 s 11) (num32 s 15) larger in-range h)) off_range 0 _ _
      (λ _. (sym (λ i. got (record { limit = limit i; budget = b; label_low = low i; label_high = high i }) 19), omega arith))))))

  sheet-into : Into (rebudgeted b) 11 (read_sheet s) (read_sheet t)
  unfolding read_sheet
  sheet-into =
      need-into (rebudgeted b) 11 _ _ (subst (λ (n : ℕ). T (leb n longest_sheet)) same.same_length) too_long 0 _ _ (λ _.
      then-into (header_with b) (rebudgeted b) 11 (read_header s) (read_header t) _ _ header-into (λ h p l.
      then-into (λ (n : ℕ). n) (rebudgeted b) 11 (read_locks s p) (read_locks t p) _ _ (alike-into 11 (read_locks s p) (read_locks t p) (locks-alike 11 s t behind p l)) (λ k q l₁.
      then-into (λ vs. vs) (rebudgeted b) 11 (read_variables s q) (read_variables t q) _ _ (alike-into 11 (read_variables s q) (read_variables t q) (variables-alike 11 s t behind q l₁)) (λ vs r l₂.
      then-into (λ ts. ts) (rebudgeted b) 11 (read_threads (length vs) k s r) (read_threads (length vs) k t r) _ _
      (alike-into 11 (read_threads (length vs) k s r) (read_threads (length vs) k t r) (threads-alike 11 s t behind (length vs) k r l₂)) (λ ts e l₃. (refl, l₃))))))

  pub reads-rebudgeted : (g : Program) (e : ℕ) → read_sheet s ≡ got g e → read_sheet t ≡ got (rebudgeted b g) e
  reads-rebudgeted g e q = (subst (λ (x : Got Program). Into (rebudgeted b) 11 x (read_sheet t)) q sheet-into).0
