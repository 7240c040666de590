-- What holds of ranges and of a thread that was read.
use Rattle.std.specs.Prelude.{if◌then◌else◌}
use mathlib.Core.Path.{◌≡◌, refl, sym, ap, subst, ◌∙◌}
use mathlib.Core.Bool.{Bool, true, false, not}
use mathlib.Core.List.{List, [], ◌∷◌, ◌++◌}
use Prim.Native.Nat.{ℕ, zero, suc, ◌+◌, ◌-◌, ◌*◌, ◌<◌, ◌≤◌}
use native.Mathlib.Omega.{arith}
use lib.Dec.{leb, eqb}
use lib.ListN.{length, get_or, length-append}
use borrow.Author.Tests.{ltb-true}
use Rattle.rules.specs.Base.{Each, nil, ◌&◌}
use Rattle.rules.specs.Constants.{most_variables, most_registers, most_statements}
use Rattle.rules.specs.Refusal as R
use Rattle.rules.specs.Refusal.{short, out_of_turn, no_such_name, no_halt}
use Rattle.rules.specs.Interval.{Interval}
use Rattle.rules.specs.Program.{Action, halt, skip, assign, branch, store, load, unlock, lock, is_halt, Statement, Thread, no_statement}
use Rattle.rules.specs.Format.{Bytes, byte, Got, bad, got, need, Names, has_head, sized, read_range, wrong, more, done, variable_here, read_variables, read_registers, statement_here, read_statement, read_statements, target_fits, last_halts, targets_fit, close, read_thread}
use Rattle.rules.proofs.Format.{If, close-if, registers-ordered}
use Rattle.reader.specs.Facts.{range_at, ranges, Ordered, Targets, StatementFacts, ThreadFacts}
use Rattle.rules.proofs.IfAt.{IfAt, then_at, sized-at, due-at, any_at, plain, both_at, weaker-at, with-reading, when-got, many-at, many-few}
use Rattle.reader.proofs.closing.Codes.{need-gives, last-gives, targets-give}
use Rattle.reader.proofs.threads.Laws.{opened}
use Rattle.reader.proofs.StatementFacts.{statements-facts}

-- ---- ranges

ranges-snoc : (s : Bytes) (p k : ℕ) → ranges s p (suc k) ≡ ranges s p k ++ range_at s (p + 11 * k) ∷ []
unfolding ranges
ranges-snoc s p zero = let e : p ≡ p + 11 * 0 = omega arith in ap (λ (q : ℕ). range_at s q ∷ []) e
ranges-snoc s p (suc k) =
    let e : p + 11 + 11 * k ≡ p + 11 * suc k = omega arith in
    ap (λ (l : List Interval). range_at s p ∷ l) (ranges-snoc s (p + 11) k ∙ ap (λ (q : ℕ). ranges s (p + 11) k ++ range_at s q ∷ []) e)

-- one of several ranges, where it stands
pub range-of : (s : Bytes) (p k i : ℕ) (d : Interval) → i < k → get_or (ranges s p k) i d ≡ range_at s (p + 11 * i)
unfolding ranges
range-of s p zero i d h = absurd (omega arith)
range-of s p (suc k) zero d h = let e : p ≡ p + 11 * 0 = omega arith in ap (range_at s) e
range-of s p (suc k) (suc i) d h = let e : p + 11 + 11 * i ≡ p + 11 * suc i = omega arith in range-of s (p + 11) k i d (omega arith) ∙ ap (range_at s) e

range-is : (s : Bytes) (p : ℕ) → IfAt (λ (i : Interval) (q : ℕ). (i ≡ range_at s p) × (q ≡ p + 11)) (read_range s p)
unfolding read_range
range-is s p = sized-at (λ (i : Interval) (q : ℕ). (i ≡ range_at s p) × (q ≡ p + 11)) s p 8 _ (range_at s p) (λ _ _. (refl, omega arith))

-- the ranges of the fields from p up to q
abbrev Row : Bytes → ℕ → List Interval → ℕ → Type 0
Row s p xs q = (xs ≡ ranges s p (length xs)) × (q ≡ p + 11 * length xs)

row-none : (s : Bytes) (at : ℕ) → Row s at [] at
unfolding ranges
row-none s at = (refl, omega arith)

row_more : (s : Bytes) (p : ℕ) (xs : List Interval) (q : ℕ) (i : Interval) (r : ℕ) → Row s p xs q → (i ≡ range_at s q) × (r ≡ q + 11) → Row s p (xs ++ i ∷ []) r
row_more s p xs q i r h k =
    let n : length (xs ++ i ∷ []) ≡ suc (length xs) = simp length-append (omega arith) in
    let a = h.1 in let b = k.1 in
    ((λ j. h.0 j ++ (k.0 ∙ ap (range_at s) h.1) j ∷ []) ∙ sym (ranges-snoc s p (length xs)) ∙ ap (ranges s p) (sym n), omega arith)

pub variables-row : (s : Bytes) (at : ℕ) → IfAt (λ xs q. Row s at xs q × (variable_here s q ≡ done)) (read_variables s at)
unfolding read_variables
variables-row s at =
    many-at (Row s at) (λ n p. variable_here s p) (λ p. read_range s p)
    (λ xs p h. weaker-at _ _ (read_range s p) (range-is s p) (λ i q k. row_more s at xs p i q h k)) most_variables [] at (row-none s at)

pub variables-few : (s : Bytes) (at : ℕ) → IfAt (λ (vs : List Interval) q. length vs ≤ 0 + most_variables) (read_variables s at)
unfolding read_variables
variables-few s at = many-few (λ n p. variable_here s p) (λ p. read_range s p) most_variables [] at

registers-row : (s : Bytes) (at k : ℕ) (rs : List Interval) (p : ℕ) → Row s at rs p → IfAt (Row s at) (read_registers k rs s p)
unfolding read_registers
registers-row s at zero rs p h = h
registers-row s at (suc k) rs p h =
    then_at (λ (i : Interval) (q : ℕ). (i ≡ range_at s p) × (q ≡ p + 11)) (Row s at) _ _
    (due-at _ 5 s p (read_range s p) (range-is s p))
    (λ i q e. registers-row s at k (rs ++ i ∷ []) q (row_more s at rs p i q h e))

-- ---- closing

need-held : {A : Type 0} (b : Bool) (r : R.Refusal) (at : ℕ) (g : Got A) (a : A) (q : ℕ) → need b r at g ≡ got a q → b ≡ true
unfolding need
need-held true r at g a q e = refl
need-held false r at g a q e = let z : ◌≡◌ {A = ℕ} 0 1 = cc in absurd (omega arith)

targets_of : (n : ℕ) (o : Action) → target_fits n o ≡ true → Targets n o
unfolding target_fits
targets_of n halt e = tt
targets_of n skip e = tt
targets_of n (assign r a) e = tt
targets_of n (branch t c) e = ltb-true t n e
targets_of n (store r v) e = tt
targets_of n (load r v) e = tt
targets_of n (unlock l) e = tt
targets_of n (lock l) e = tt

targets-held : {A : Type 0} (n : ℕ) (xs : List Statement) (g : Got A) (a : A) (q : ℕ) → targets_fit n xs g ≡ got a q → Each (λ x. Targets n x.action) xs
unfolding targets_fit
targets-held n [] g a q e = nil
targets-held n (x ∷ xs) g a q e =
    targets_of n x.action (need-held (target_fits n x.action) no_such_name x.place (targets_fit n xs g) a q e)
    & targets-held n xs g a q (need-gives (target_fits n x.action) no_such_name x.place (targets_fit n xs g) a q e)

last-held : {A : Type 0} (x : Statement) (xs : List Statement) (g : Got A) (a : A) (q : ℕ) → last_halts (x ∷ xs) g ≡ got a q
    → is_halt (get_or (x ∷ xs) (length xs) no_statement).action ≡ true
unfolding last_halts
last-held x [] g a q e = need-held (is_halt x.action) no_halt x.place g a q e
last-held x (y ∷ ys) g a q e = last-held y ys g a q e

last-is : {A : Type 0} (xs : List Statement) (g : Got A) (a : A) (q : ℕ) → 1 ≤ length xs → last_halts xs g ≡ got a q → is_halt (get_or xs (length xs - 1) no_statement).action ≡ true
last-is [] g a q h e = absurd (omega arith)
last-is (x ∷ xs) g a q h e =
    let m : length xs ≡ suc (length xs) - 1 = omega arith in
    subst (λ (j : ℕ). is_halt (get_or (x ∷ xs) j no_statement).action ≡ true) m (last-held x xs g a q e)

-- statements that were closed
abbrev Closed : List Statement → Type 0
Closed xs = Each (λ x. Targets (length xs) x.action) xs × (1 ≤ length xs → is_halt (get_or xs (length xs - 1) no_statement).action ≡ true)

same-list : (xs ys : List Statement) (q e : ℕ) → got xs q ≡ got ys e → xs ≡ ys
same-list xs ys q e f = cc

closed : (g : Got (List Statement)) (ys : List Statement) (e : ℕ) → close g ≡ got ys e → Closed ys
unfolding close
closed (bad r p) ys e f = let z : ◌≡◌ {A = ℕ} 0 1 = cc in absurd (omega arith)
closed (got xs q) ys e f =
    let t = last-gives xs (targets_fit (length xs) xs (got xs q)) ys e f in
    let same = same-list xs ys q e (targets-give (length xs) xs (got xs q) ys e t) in
    subst Closed same (targets-held (length xs) xs (got xs q) ys e t, λ h. last-is xs (targets_fit (length xs) xs (got xs q)) ys e h f)

-- ---- a thread's statements

first-not-done : (b c : Bool) → (if not b then wrong short else if c then more else wrong out_of_turn) ≡ done → ⊥
first-not-done true true e = let z : ◌≡◌ {A = ℕ} 0 1 = cc in omega arith
first-not-done true false e = let z : ◌≡◌ {A = ℕ} 0 1 = cc in omega arith
first-not-done false c e = let z : ◌≡◌ {A = ℕ} 0 1 = cc in omega arith

some-here : (n : ℕ) (s : Bytes) (p : ℕ) → statement_here n s p ≡ done → 1 ≤ n
unfolding statement_here
some-here zero s p e = absurd (first-not-done (has_head s p) (eqb (byte s p) 6) e)
some-here (suc n) s p e = omega arith

statements-some : (ns : Names) (s : Bytes) (at : ℕ) → IfAt (λ (xs : List Statement) (q : ℕ). 1 ≤ length xs) (read_statements ns s at)
unfolding read_statements
statements-some ns s at =
    weaker-at _ _ (read_statements ns s at)
    (many-at (λ (xs : List Statement) (q : ℕ). Unit {0}) (λ n p. statement_here n s p) (λ p. read_statement ns s p)
    (λ xs p h. with-reading (λ (x : Statement) (q : ℕ). Unit {0}) (read_statement ns s p) (λ x q e. tt)) most_statements [] at tt)
    (λ xs q h. some-here (length xs) s q h.1)

statements-few : (ns : Names) (s : Bytes) (at : ℕ) → IfAt (λ (xs : List Statement) q. length xs ≤ 0 + most_statements) (read_statements ns s at)
unfolding read_statements
statements-few ns s at = many-few (λ n p. statement_here n s p) (λ p. read_statement ns s p) most_statements [] at

-- ---- a thread

abbrev names : ℕ → ℕ → ℕ → Names
names n vars locks = record { regs = n; vars = vars; locks = locks }

record CodeFacts (ns : Names) (s : Bytes) (xs : List Statement) : Type 0 where
  some : 1 ≤ length xs
  few : length xs ≤ most_statements
  each : Each (StatementFacts ns s) xs
  shut : Closed xs

code-facts : (ns : Names) (s : Bytes) (at : ℕ) → IfAt (λ xs q. CodeFacts ns s xs) (close (read_statements ns s at))
code-facts ns s at =
    let g = read_statements ns s at in
    with-reading (λ xs q. CodeFacts ns s xs) (close g) (λ xs q e.
    let held : (P : List Statement → Type 0) → IfAt (λ xs q. P xs) g → P xs = (λ P h. when-got (λ xs q. P xs) (close g) (any_at P (close g) (close-if P g (plain P g h))) xs q e) in
    let f = held (λ (xs : List Statement). length xs ≤ 0 + most_statements) (statements-few ns s at) in
    record {
      some = held (λ (xs : List Statement). 1 ≤ length xs) (statements-some ns s at);
      few = omega arith;
      each = held (Each (StatementFacts ns s)) (any_at (Each (StatementFacts ns s)) g (statements-facts ns s at));
      shut = closed g xs q e;
    })

-- what is known by the field's own bytes
record ThreadAt (vars locks : ℕ) (s : Bytes) (at : ℕ) (t : Thread) : Type 0 where
  regs : t.regs ≡ ranges s (at + 4) (length t.regs)
  ordered : Each Ordered t.regs
  code : CodeFacts (names (byte s (at + 3)) vars locks) s t.statements

thread-at : (vars locks : ℕ) (s : Bytes) (at : ℕ) → IfAt (λ t q. ThreadAt vars locks s at t) (read_thread vars locks s at)
unfolding read_thread
thread-at vars locks s at =
    let n = byte s (at + 3) in
    let P : Thread → ℕ → Type 0 = (λ t q. ThreadAt vars locks s at t) in
    then_at (λ (n q : ℕ). q ≡ at + 4) P (sized s at 1 (leb n most_registers) n) _ (sized-at (λ (n q : ℕ). q ≡ at + 4) s at 1 (leb n most_registers) n (λ _ _. omega arith)) (λ _ p e.
    then_at (λ rs q. Row s (at + 4) rs q × Each Ordered rs) P (read_registers n [] s p) _
    (both_at (Row s (at + 4)) (λ rs q. Each Ordered rs) (read_registers n [] s p)
    (registers-row s (at + 4) n [] p (subst (Row s (at + 4) []) (sym e) (row-none s (at + 4))))
    (any_at (Each Ordered) (read_registers n [] s p) (registers-ordered n [] s p nil))) (λ rs q h.
    then_at (λ xs r. CodeFacts (names n vars locks) s xs) P (close (read_statements (names n vars locks) s q)) _ (code-facts (names n vars locks) s q)
    (λ xs r c. record { regs = h.0.0; ordered = h.1; code = c })))

pub thread-facts : (vars locks : ℕ) (s : Bytes) (at : ℕ) → If (ThreadFacts vars locks s) (read_thread vars locks s at)
thread-facts vars locks s at =
    let g = read_thread vars locks s at in
    plain (ThreadFacts vars locks s) g (with-reading (λ t q. ThreadFacts vars locks s t) g (λ t q e.
    let w = when-got (λ t q. ThreadAt vars locks s at t) g (thread-at vars locks s at) t q e in
    let o = opened vars locks s at t q e in
    let p = o.there in let n = o.count in let f = o.few in let r = o.room in
    record {
      head = omega arith;
      regs = w.regs ∙ ap (λ (p : ℕ). ranges s (p + 4) (length t.regs)) (sym o.there);
      regs_few = omega arith;
      regs_ordered = w.ordered;
      some = w.code.some;
      few = w.code.few;
      statements = subst (λ (k : ℕ). Each (StatementFacts (names k vars locks) s) t.statements) (sym n) w.code.each;
      targets = w.code.shut.0;
      last_halts_lem = w.code.shut.1 w.code.some;
    }))
