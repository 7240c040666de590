-- Numbers that are cut change nothing: no sheet has a thread, a statement or times as large as the number that stands for them.
use mathlib.Core.Path.{◌≡◌, refl, sym, ap, ◌∙◌}
use mathlib.Core.Bool.{Bool, true, false, ◌&&◌}
use Prim.Native.Nat.{ℕ, ◌≤◌, ◌<◌}
use native.Mathlib.Decide.{dec_le}
use native.Mathlib.Omega.{arith}
use borrow.Author.Tests.{ne_eqb}
use lib.Dec.{T, eqb}
use Rattle.rules.specs.Refusal.{Refusal, no_such_name, off_range, changed_since}
use Rattle.rules.specs.Program.{Statement, Program}
use Rattle.rules.specs.Format.{Bytes, AreBytes, Got, bad, got, need, and_then, read_sheet}
use Rattle.rules.specs.Encoding.{code_of}
use Rattle.rules.proofs.Base.{same_test}
use Rattle.rules.proofs.Format.{times-in-order}
use Rattle.reader.specs.Facts.{statement_in}
use Rattle.reader.proofs.Facts.{program-facts, thread-in}
use Rattle.digits.specs.Digits.{top, cut}
use Rattle.digits.proofs.Laws.{cut_small, cut-large}
use Rattle.retimed.specs.Retime.{retimed, is_statement, may_have, on_statement, Change, did, change_times}
use Rattle.retimed.specs.TakeBack.{shows, take_back_times}
use Rattle.retimed.proofs.Retime.{thread-there, statement-there, may-times, may-small}
use Rattle.retimed.proofs.Made.{own-times}
use Rattle.retime_main.specs.Words.{cut_change}

-- what is the same from the cut on is the same of a number that is cut
same-cut : {A : Type 0} (f : ℕ → A) (x : A) → ((n : ℕ) → top ≤ n → f n ≡ x) → (n : ℕ) → f (cut n) ≡ f n
same-cut f x far n = elim (dec_le n top) [
  | yes h ↦ ap f (cut_small n h)
  | no h ↦ let l : top < n = omega arith in far (cut n) (omega (arith, cut-large n l)) ∙ sym (far n (omega arith))
]

-- ---- no sheet that reads has so many threads or statements

module _ (s : Bytes) (g : Program) (e : ℕ) (r : read_sheet s ≡ got g e) (t k : ℕ) where
  far-thread : top ≤ t → is_statement g t k ≡ false
  far-thread h =
      same_test (is_statement g t k) false
      (λ i. let a = thread-there g t k i in let few = (program-facts s g e r).threads_few in omega arith)
      (λ z. absurd z)

  far-statement : top ≤ k → is_statement g t k ≡ false
  far-statement h =
      same_test (is_statement g t k) false
      (λ i. let a = statement-there g t k i in let few = (thread-in (program-facts s g e r) t (thread-there g t k i)).few in omega arith)
      (λ z. absurd z)

-- ---- and no statement may have such times

module _ (x : Statement) (least greatest : ℕ) where
  far-least : top ≤ least → may_have x least greatest ≡ false
  far-least h =
      same_test (may_have x least greatest) false
      (λ m. let a = times-in-order (code_of x.action) least greatest (may-times x least greatest m) in let b = may-small x least greatest m in omega arith)
      (λ z. absurd z)

  far-greatest : top ≤ greatest → may_have x least greatest ≡ false
  far-greatest h =
      same_test (may_have x least greatest) false (λ m. let b = may-small x least greatest m in omega arith) (λ z. absurd z)

-- ---- the change, and its taking back

module _ (s : Bytes) where
  -- by the tests of what is asked, for each program that the sheet may read as
  by_tests : {A : Type 0} (G : Got Program) → read_sheet s ≡ G → (f h : Program → ℕ → Got A) → ((g : Program) (e : ℕ) → read_sheet s ≡ got g e → f g e ≡ h g e)
      → and_then G f ≡ and_then G h
  unfolding and_then
  by_tests (bad r p) q f h w = refl
  by_tests (got g e) q f h w = w g e q

  -- where there is no such statement
  absent : {A : Type 0} → Got A
  absent = and_then (read_sheet s) (λ _ _. bad no_such_name 0)

  -- where no statement may have the times
  wrong-times : {A : Type 0} → ℕ → ℕ → Got A
  wrong-times t k = and_then (read_sheet s) (λ g _. need (is_statement g t k) no_such_name 0 (bad off_range 0))

  -- what follows may depend on the numbers too
  module _ {A : Type 0} (then : ℕ → ℕ → ℕ → ℕ → Statement → ℕ → Got A) where
    abbrev asked : ℕ → ℕ → ℕ → ℕ → Got A
    asked t k least greatest = on_statement s t k (λ x e. need (may_have x least greatest) off_range 0 (then t k least greatest x e))

    asked-absent : (t k least greatest : ℕ) → ((g : Program) (e : ℕ) → read_sheet s ≡ got g e → is_statement g t k ≡ false) → asked t k least greatest ≡ absent
    unfolding on_statement need absent
    asked-absent t k least greatest none = by_tests (read_sheet s) refl _ _ (λ g e r. rw (none g e r))

    asked-off : (t k least greatest : ℕ) → ((x : Statement) → may_have x least greatest ≡ false) → asked t k least greatest ≡ wrong-times t k
    unfolding on_statement need wrong-times
    asked-off t k least greatest none = by_tests (read_sheet s) refl _ _ (λ g e r. rw (none (statement_in g t k)))

    asked-cut : (t k least greatest : ℕ) → asked (cut t) (cut k) (cut least) (cut greatest) ≡ asked t k least greatest
    asked-cut t k least greatest =
        same-cut (λ n. asked n (cut k) (cut least) (cut greatest)) absent
        (λ n h. asked-absent n (cut k) (cut least) (cut greatest) (λ g e r. far-thread s g e r n (cut k) h)) t
        ∙ same-cut (λ n. asked t n (cut least) (cut greatest)) absent
        (λ n h. asked-absent t n (cut least) (cut greatest) (λ g e r. far-statement s g e r t n h)) k
        ∙ same-cut (λ n. asked t k n (cut greatest)) (wrong-times t k)
        (λ n h. asked-off t k n (cut greatest) (λ x. far-least x n (cut greatest) h)) least
        ∙ same-cut (λ n. asked t k least n) (wrong-times t k)
        (λ n h. asked-off t k least n (λ x. far-greatest x least n h)) greatest

  pub change-cut : (t k least greatest : ℕ) → change_times s (cut t) (cut k) (cut least) (cut greatest) ≡ change_times s t k least greatest
  change-cut t k least greatest =
      asked-cut (λ t k l h x e. got (record { sheet = retimed s x.place l h; change = did t k x l h }) e) t k least greatest

-- ---- times that are only compared

equal-cut : (m n : ℕ) → m < top → eqb m (cut n) ≡ eqb m n
equal-cut m n h = elim (dec_le n top) [
  | yes k ↦ ap (eqb m) (cut_small n k)
  | no k ↦ let l : top < n = omega arith in ne_eqb m (cut n) (λ e. omega (arith, cut-large n l)) ∙ sym (ne_eqb m n (λ e. omega arith))
]

need-same : {A : Type 0} (b : Bool) (r : Refusal) (p : ℕ) (x y : Got A) → (T b → x ≡ y) → need b r p x ≡ need b r p y
unfolding need
need-same true r p x y f = f tt
need-same false r p x y f = refl

module _ (s : Bytes) (o : AreBytes s) (c : Change) where
  -- the times of a statement have two bytes
  new-cut : (g : Program) (e : ℕ) → read_sheet s ≡ got g e → T (is_statement g c.thread c.statement)
      → shows (statement_in g c.thread c.statement) (cut c.new_least) (cut c.new_greatest) ≡ shows (statement_in g c.thread c.statement) c.new_least c.new_greatest
  unfolding shows
  new-cut g e r i =
      let x = statement_in g c.thread c.statement in
      let own = own-times s o c.thread c.statement g e r i in
      let small = may-small x x.least x.greatest own in
      let ordered = times-in-order (code_of x.action) x.least x.greatest (may-times x x.least x.greatest own) in
      (λ j. equal-cut x.least c.new_least (omega arith) j && equal-cut x.greatest c.new_greatest (omega arith) j)

  pub back_cut : take_back_times s (cut_change c) ≡ take_back_times s c
  unfolding on_statement
  back_cut =
      asked-cut s (λ t k l h x e. need (shows x (cut c.new_least) (cut c.new_greatest)) changed_since 0 (got (retimed s x.place l h) e))
      c.thread c.statement c.old_least c.old_greatest
      ∙ by_tests s (read_sheet s) refl _ _ (λ g e r.
      need-same (is_statement g c.thread c.statement) _ _ _ _ (λ i.
      ap (λ (b : Bool). need (may_have (statement_in g c.thread c.statement) c.old_least c.old_greatest) off_range 0
      (need b changed_since 0 (got (retimed s (statement_in g c.thread c.statement).place c.old_least c.old_greatest) e))) (new-cut g e r i)))
