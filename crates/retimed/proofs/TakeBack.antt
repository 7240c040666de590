-- A change taken back: the rule, case by case; it restores the very bytes, and so do several, the last one first.
use mathlib.Core.Path.{◌≡◌, refl, sym, ap, subst, ◌∙◌}
use mathlib.Core.Bool.{false}
use mathlib.Core.List.{List}
use Prim.Native.Nat.{ℕ}
use native.Mathlib.Omega.{arith}
use lib.Dec.{T, ltb, eqb, lt→ltb, eqb_refl}
use lib.ListN.{length, get_or, set, length-set}
use lib.Seq.{get_or-set_same}
use Rattle.rules.specs.Refusal as R
use Rattle.rules.specs.Refusal.{off_range, changed_since}
use Rattle.rules.specs.Program.{Statement, Thread, Program, no_statement, no_thread}
use Rattle.rules.specs.Format.{Bytes, AreBytes, bad, got, need, read_sheet}
use Rattle.rules.proofs.Base.{and_both}
use Rattle.rules.proofs.IfAt.{need-yes, need-no}
use Rattle.reader.specs.Facts.{thread_in, statement_in}
use Rattle.retimed.specs.Retime.{retimed, is_statement, may_have, Change, did, Changed, change, with_times, with_statement, edited, retime}
use Rattle.retimed.specs.TakeBack.{shows, take_back_times, taken_back, take_back, Changes, none, one_more, take_all_back}
use Rattle.retimed.specs.TakeBackClaims.{restored, refused_at, ComesBack}
use Rattle.retimed.proofs.TimeBytes.{retimed-twice}
use Rattle.retimed.proofs.Retime.{thread-there, statement-there}
use Rattle.retimed.proofs.Change.{statement-named}
use Rattle.retimed.proofs.Made.{own-times, same-sheet, made_of, was-made}

-- ---- the rule, where there is such a statement

module _ (s : Bytes) (c : Change) where
  module _ (g : Program) (e : ℕ) (r : read_sheet s ≡ got g e) (i : T (is_statement g c.thread c.statement)) where
    abbrev x : Statement
    x = statement_in g c.thread c.statement

    pub back-off : may_have x c.old_least c.old_greatest ≡ false → take_back_times s c ≡ bad off_range 0
    back-off n = statement-named s c.thread c.statement _ g e r i ∙ need-no (may_have x c.old_least c.old_greatest) _ _ _ n

    module _ (m : T (may_have x c.old_least c.old_greatest)) where
      tested : take_back_times s c ≡ need (shows x c.new_least c.new_greatest) changed_since 0 (got (retimed s x.place c.old_least c.old_greatest) e)
      tested = statement-named s c.thread c.statement _ g e r i ∙ need-yes (may_have x c.old_least c.old_greatest) _ _ _ m

      pub back-since : shows x c.new_least c.new_greatest ≡ false → take_back_times s c ≡ bad changed_since 0
      back-since n = tested ∙ need-no (shows x c.new_least c.new_greatest) _ _ _ n

      pub back-made : T (shows x c.new_least c.new_greatest) → take_back_times s c ≡ got (retimed s x.place c.old_least c.old_greatest) e
      back-made y = tested ∙ need-yes (shows x c.new_least c.new_greatest) _ _ _ y

  -- the answer that the rule's outcome is
  pub taken_refused : {r : R.Refusal} {p : ℕ} → take_back_times s c ≡ bad r p → take_back s c ≡ refused_at s r p
  unfolding take_back taken_back
  taken_refused e = ap (taken_back s) e

  pub taken_made : {old : Bytes} {e : ℕ} → take_back_times s c ≡ got old e → take_back s c ≡ restored old
  unfolding take_back taken_back
  taken_made e = ap (taken_back s) e

-- ---- the statement of the program with other times

module _ (g : Program) (t k : ℕ) (i : T (is_statement g t k)) (l h : ℕ) where
  retime-statement : statement_in (retime g t k l h) t k ≡ with_times l h (statement_in g t k)
  unfolding edited with_statement
  retime-statement =
      let y = with_times l h (statement_in g t k) in
      ap (λ (x : Thread). get_or x.statements k no_statement) (get_or-set_same g.threads t (with_statement k y (thread_in g t)) no_thread (thread-there g t k i))
      ∙ get_or-set_same (thread_in g t).statements k y no_statement (statement-there g t k i)

  retime-there : T (is_statement (retime g t k l h) t k)
  unfolding is_statement edited with_statement
  retime-there =
      let y = with_times l h (statement_in g t k) in
      let th = with_statement k y (thread_in g t) in
      let n = length-set g.threads t th in
      let m = length-set (thread_in g t).statements k y in
      let a = thread-there g t k i in let b = statement-there g t k i in
      let e = ap (λ (x : Thread). length x.statements) (get_or-set_same g.threads t th no_thread (thread-there g t k i)) in
      and_both (ltb t (length (set g.threads t th))) (ltb k (length (get_or (set g.threads t th) t no_thread).statements))
      (lt→ltb t (length (set g.threads t th)) (omega arith)) (lt→ltb k (length (get_or (set g.threads t th) t no_thread).statements) (omega arith))

-- ---- a change and its taking back

module _ (s : Bytes) (o : AreBytes s) (t k l h : ℕ) where
  pub comes_back : ComesBack s t k l h
  unfolding shows with_times may_have
  comes_back z =
      let what = made_of s t k l h z in
      let w = was-made s o t k l h z in
      let g = what.program in
      let x = statement_in g t k in
      let new = retimed s x.place l h in
      let c = did t k x l h in
      let is : statement_in (retime g t k l h) t k ≡ with_times l h x = retime-statement g t k what.there l h in
      let may = subst (λ (y : Statement). T (may_have y x.least x.greatest)) (sym is) (own-times s o t k g what.end what.reads what.there) in
      let shown = subst (λ (y : Statement). T (shows y l h)) (sym is) (and_both (eqb l l) (eqb h h) (eqb_refl l) (eqb_refl h)) in
      ap (λ (y : Changed). take_back y.sheet y.change) w.answered
      ∙ taken_made new c (back-made new c (retime g t k l h) what.end w.reads (retime-there g t k what.there l h) may shown)
      ∙ ap (λ (y : Statement). restored (retimed new y.place x.least x.greatest)) is
      ∙ ap restored (retimed-twice s x.place l h x.least x.greatest ∙ same-sheet s o t k g what.end what.reads what.there)

  pub changed-bytes : (change s t k l h).refusal ≡ 0 → AreBytes (change s t k l h).sheet
  changed-bytes z = let w = was-made s o t k l h z in subst (λ (y : Changed). AreBytes y.sheet) (sym w.answered) w.are_bytes

-- ---- several

all-bytes : (s : Bytes) → AreBytes s → {cs : List Change} {now : Bytes} → Changes s cs now → AreBytes now
all-bytes s o none = o
all-bytes s o (one_more {cs} {now} t k l h before z) = changed-bytes now (all-bytes s o before) t k l h z

pub all_come_back : (s : Bytes) → AreBytes s → {cs : List Change} {now : Bytes} → Changes s cs now → take_all_back cs now ≡ restored s
unfolding take_all_back
all_come_back s o none = refl
all_come_back s o (one_more {cs} {now} t k l h before z) = rw (comes_back now (all-bytes s o before) t k l h z) (all_come_back s o before)
