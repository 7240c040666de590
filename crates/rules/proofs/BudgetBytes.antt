-- The budget's four bytes in a sheet: they are those of the program that it reads as, and a budget written there stands there.
use mathlib.Core.Path.{◌≡◌, refl, sym, ap, ◌∙◌, subst}
use mathlib.Core.List.{◌++◌}
use Prim.Native.Nat.{ℕ, ◌+◌, ◌-◌, ◌≤◌, ◌<◌}
use native.Mathlib.Omega.{arith}
use lib.Dec.{leb, eqb, leb→le, eqb→eq}
use lib.ListN.{length, take, drop, length-append, length-drop, get_or-append}
use lib.Seq.{get_or-take, get_or-drop, get_or-append-add, length-take-le}
use Rattle.rules.specs.Refusal.{short, bad_length, off_range, too_long}
use Rattle.rules.specs.Program.{Header, Program}
use Rattle.rules.specs.Format.{Bytes, got, byte, num16, num32, has_body, sized, read_header, read_locks, read_variables, read_threads, read_sheet}
use Rattle.rules.specs.Encoding.{four}
use Rattle.rules.specs.Budget.{budget_in, SameButBudget, with_budget}
use Rattle.rules.proofs.Format.{If, need-if, then_if, then-any, due-if}

-- ---- a sheet that reads holds the whole first field, and its program's budget is the one in the bytes

pub record FieldSays (s : Bytes) (budget : ℕ) : Type 0 where
  pub long : 19 ≤ length s
  pub budget_is : budget ≡ budget_in s

header-says : (s : Bytes) → If (λ (h : Header). FieldSays s h.budget) (read_header s)
unfolding read_header sized has_body
header-says s =
    let P : Header → Type 0 = λ h. FieldSays s h.budget in
    due-if P 1 s 0 _ (need-if P (leb (0 + 3 + num16 s 1) (length s)) short 0 _ (λ t.
    need-if P (eqb (num16 s 1) 16) bad_length 0 _ (λ u.
    need-if P _ off_range 0 _ (λ _. record {
      long = (let a = leb→le (0 + 3 + num16 s 1) (length s) t in let b = eqb→eq (num16 s 1) 16 u in omega arith);
      budget_is = refl;
    }))))

sheet-says : (s : Bytes) → If (λ (g : Program). FieldSays s g.header.budget) (read_sheet s)
unfolding read_sheet
sheet-says s =
    let P : Program → Type 0 = λ g. FieldSays s g.header.budget in
    need-if P _ too_long 0 _ (λ _.
    then_if (λ (h : Header). FieldSays s h.budget) P (read_header s) _ (header-says s) (λ h p k.
    then-any P (read_locks s p) _ (λ l q. then-any P (read_variables s q) _ (λ vs r. then-any P (read_threads (length vs) l s r) _ (λ ts e. k)))))

pub field-says : (s : Bytes) (g : Program) (e : ℕ) → read_sheet s ≡ got g e → FieldSays s g.header.budget
field-says s g e q = subst (If (λ (g : Program). FieldSays s g.header.budget)) q (sheet-says s)

-- ---- a budget written into the four bytes stands there, and nothing else of the sheet changes

module _ (c : ℕ) (s : Bytes) (long : 19 ≤ length s) where
  abbrev front : Bytes
  front = take 7 s ++ four c

  take-seven : length (take 7 s) ≡ 7
  take-seven = length-take-le 7 s (omega arith)

  front_length : length front ≡ 11
  front_length = let a = length-append (take 7 s) (four c) in let b = take-seven in omega arith

  in-front : (p : ℕ) → p < 11 → byte (with_budget c s) p ≡ byte front p
  unfolding with_budget
  in-front p h = get_or-append front (drop 11 s) 0 p (subst (λ (n : ℕ). p < n) (sym front_length) h)

  -- the bytes written
  written_at : (i : ℕ) → i < 4 → byte (with_budget c s) (7 + i) ≡ byte (four c) i
  written_at i h =
      in-front (7 + i) (omega arith) ∙ ap (λ (n : ℕ). byte front (n + i)) (sym take-seven) ∙ get_or-append-add (take 7 s) (four c) i 0

  pub written-budget : budget_in (with_budget c s) ≡ c
  unfolding num32
  written-budget =
      let d = written_at 0 (omega arith) in
      let e = written_at 1 (omega arith) in
      let f = written_at 2 (omega arith) in
      let g = written_at 3 (omega arith) in omega arith

  before : (p : ℕ) → p < 7 → byte (with_budget c s) p ≡ byte s p
  before p h = in-front p (omega arith) ∙ get_or-append (take 7 s) (four c) 0 p (subst (λ (n : ℕ). p < n) (sym take-seven) h) ∙ get_or-take 7 s p 0 h

  after : (i : ℕ) → byte (with_budget c s) (11 + i) ≡ byte s (11 + i)
  unfolding with_budget
  after i = ap (λ (n : ℕ). byte (front ++ drop 11 s) (n + i)) (sym front_length) ∙ get_or-append-add front (drop 11 s) i 0 ∙ get_or-drop 11 s i 0

  pub written_same : SameButBudget s (with_budget c s)
  unfolding with_budget
  written_same = record {
    same_length = (let a = length-append front (drop 11 s) in let b = front_length in let d = length-drop 11 s in omega arith);
    same_before = λ p h. sym (before p h);
    same_behind = λ p h. (let i : 11 + (p - 11) ≡ p = omega arith in subst (λ (q : ℕ). byte s q ≡ byte (with_budget c s) q) i (sym (after (p - 11))));
  }
