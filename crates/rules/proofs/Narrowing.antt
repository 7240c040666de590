-- Narrowing only narrows, and every part worked out during narrowing has a reading where every part had one before.
use mathlib.Core.Path.{◌≡◌, subst}
use mathlib.Core.Bool.{◌&&◌}
use mathlib.Core.Option.{Option, none, some}
use Prim.Native.Nat.{ℕ, zero, suc}
use lib.IntN.{ℤ, pred_ℤ, suc_ℤ}
use lib.Signed.{le_z, lt_z, ◌≤ℤ◌, ≤ℤ_refl, le_z_yes}
use lib.ListN.{get_or, set}
use Rattle.rules.specs.Base.{Each, nil, ◌&◌}
use Rattle.rules.specs.Refusal.{Result, value, fault}
use Rattle.rules.specs.Interval.{Interval, eq_z, meet, join}
use Rattle.rules.specs.Program.{Arith, constant, register, operation, Condition, always, never, negation, conjunction, equal, less}
use Rattle.rules.specs.Expression.{Regs, zero_interval, evaluate, all_parts, narrow_yes, narrow_no, join_regs, join_both, then_narrow, compared, keep, on_register, at_most, at_least, equal_yes, equal_no, less_yes, less_no}
use Rattle.rules.proofs.Base.{if-ind}
use Rattle.rules.proofs.Order.{≤ℤ-trans, min-left, max-left, min-above, max-below}
use Rattle.rules.proofs.Interval.{Ordered, ◌⊑◌, ⊑_refl, Part}
use Rattle.rules.proofs.Expression.{Narrower, no_regs, one_reg, narrower-refl, narrower-trans, narrower-ordered, IsValue, both_values, parts_below}

-- ---- narrowing only narrows

-- an empty result is narrower than anything
abbrev pub Narrower? : Option Regs → Regs → Type 0
Narrower? none rs = Unit {0}
Narrower? (some ss) rs = Narrower ss rs

narrower-trans? : (o : Option Regs) {ss ts : Regs} → Narrower? o ss → Narrower ss ts → Narrower? o ts
narrower-trans? none h l = tt
narrower-trans? (some rs) h l = narrower-trans h l

set-narrower : {rs : Regs} → Each Ordered rs → (r : ℕ) (i : Interval) → Part i (get_or rs r zero_interval) → Narrower (set rs r i) rs
set-narrower nil zero i h = no_regs
set-narrower nil (suc r) i h = no_regs
set-narrower (p & ps) zero i h = one_reg h (narrower-refl ps)
set-narrower (◌&◌ {x = j} p ps) (suc r) i h = one_reg (record { inside = ⊑_refl j; ordered = p }) (set-narrower ps r i h)

keep-narrower : (rs : Regs) → Each Ordered rs → (r : ℕ) (i : Interval) → i ⊑ get_or rs r zero_interval → Narrower? (keep rs r i) rs
unfolding keep
keep-narrower rs o r i h =
    if-ind (le_z i.low i.high) (some (set rs r i)) none (λ k. Narrower? k rs)
    (λ t. set-narrower o r i (record { inside = h; ordered = le_z_yes t })) (λ t. tt)

-- the three cuts give a part
at_most-part : (z : ℤ) (i : Interval) → at_most z i ⊑ i
unfolding at_most
at_most-part z i = record { low = ≤ℤ_refl i.low; high = min-left i.high z }

at_least-part : (z : ℤ) (i : Interval) → at_least z i ⊑ i
unfolding at_least
at_least-part z i = record { low = max-left i.low z; high = ≤ℤ_refl i.high }

meet-part : (m i : Interval) → meet i m ⊑ i
unfolding meet
meet-part m i = record { low = max-left i.low m.low; high = min-left i.high m.high }

register-narrower : (f : Interval → Interval) → ((i : Interval) → f i ⊑ i) → (a : Arith) (o : Option Regs) (rs : Regs)
    → Narrower? o rs → Narrower? (on_register f a o) rs
unfolding on_register
register-narrower f p (constant z) o rs h = h
register-narrower f p (register r) none rs h = tt
register-narrower f p (register r) (some ss) rs h =
    let i = get_or ss r zero_interval in
    narrower-trans? (keep ss r (f i)) (keep-narrower ss (narrower-ordered h) r (f i) (p i)) h
register-narrower f p (operation b x y) o rs h = h

module _ (rs : Regs) (o : Each Ordered rs) where
  -- two sides cut one after the other
  sides-narrower : (f g : Interval → Interval) → ((i : Interval) → f i ⊑ i) → ((i : Interval) → g i ⊑ i) → (a b : Arith)
      → Narrower? (on_register f b (on_register g a (some rs))) rs
  sides-narrower f g p q a b = register-narrower f p b (on_register g a (some rs)) rs (register-narrower g q a (some rs) rs (narrower-refl o))

  equal_yes-narrower : (a b : Arith) (i j : Interval) → Narrower? (equal_yes a b rs i j) rs
  unfolding equal_yes
  equal_yes-narrower a b i j =
      let m = meet i j in
      if-ind (le_z m.low m.high) (on_register (λ k. meet k m) b (on_register (λ k. meet k m) a (some rs))) none (λ k. Narrower? k rs)
      (λ t. sides-narrower (λ k. meet k m) (λ k. meet k m) (meet-part m) (meet-part m) a b) (λ t. tt)

  equal_no-narrower : (i j : Interval) → Narrower? (equal_no rs i j) rs
  unfolding equal_no
  equal_no-narrower i j =
      if-ind (eq_z i.low i.high && (eq_z j.low j.high && eq_z i.low j.low)) none (some rs) (λ k. Narrower? k rs)
      (λ t. tt) (λ t. narrower-refl o)

  less_yes-narrower : (a b : Arith) (i j : Interval) → Narrower? (less_yes a b rs i j) rs
  unfolding less_yes
  less_yes-narrower a b i j =
      let above = suc_ℤ i.low in
      let below = pred_ℤ j.high in
      if-ind (lt_z i.low j.high) (on_register (at_least above) b (on_register (at_most below) a (some rs))) none (λ k. Narrower? k rs)
      (λ t. sides-narrower (at_least above) (at_most below) (at_least-part above) (at_most-part below) a b) (λ t. tt)

  less_no-narrower : (a b : Arith) (i j : Interval) → Narrower? (less_no a b rs i j) rs
  unfolding less_no
  less_no-narrower a b i j =
      if-ind (le_z j.low i.high) (on_register (at_most i.high) b (on_register (at_least j.low) a (some rs))) none (λ k. Narrower? k rs)
      (λ t. sides-narrower (at_most i.high) (at_least j.low) (at_most-part i.high) (at_least-part j.low) a b) (λ t. tt)

  compared-narrower : (f : Interval → Interval → Option Regs) → ((i j : Interval) → Narrower? (f i j) rs) → (x y : Result Interval) → Narrower? (compared f x y) rs
  unfolding compared
  compared-narrower f k (fault r) y = tt
  compared-narrower f k (value i) (fault r) = tt
  compared-narrower f k (value i) (value j) = k i j

join-part : (i j k : Interval) → Part i k → Part j k → Part (join i j) k
unfolding join
join-part i j k h l = record {
  inside = record { low = min-above h.inside.low l.inside.low; high = max-below h.inside.high l.inside.high };
  ordered = ≤ℤ-trans (min-left i.low j.low) (≤ℤ-trans h.ordered (max-left i.high j.high));
}

join_regs-narrower : {rs ss ts : Regs} → Narrower rs ts → Narrower ss ts → Narrower (join_regs rs ss) ts
unfolding join_regs
join_regs-narrower no_regs l = no_regs
join_regs-narrower (one_reg {i} {j = k} h t) (one_reg {i = j} h' t') = one_reg (join-part i j k h h') (join_regs-narrower t t')

join_both-narrower : (o p : Option Regs) (rs : Regs) → Narrower? o rs → Narrower? p rs → Narrower? (join_both o p) rs
unfolding join_both
join_both-narrower none p rs h l = l
join_both-narrower (some ss) none rs h l = h
join_both-narrower (some ss) (some ts) rs h l = join_regs-narrower h l

then-narrower : (o : Option Regs) (f : Regs → Option Regs) (rs : Regs) → Narrower? o rs → ((ss : Regs) → Each Ordered ss → Narrower? (f ss) ss)
    → Narrower? (then_narrow o f) rs
unfolding then_narrow
then-narrower none f rs h k = tt
then-narrower (some ss) f rs h k = narrower-trans? (f ss) (k ss (narrower-ordered h)) h

mutual
  unfolding narrow_yes

  pub yes-narrower : (c : Condition) (rs : Regs) → Each Ordered rs → Narrower? (narrow_yes c rs) rs
  yes-narrower always rs o = narrower-refl o
  yes-narrower never rs o = tt
  yes-narrower (negation c) rs o = no-narrower c rs o
  yes-narrower (conjunction c d) rs o = then-narrower (narrow_yes c rs) (λ ss. narrow_yes d ss) rs (yes-narrower c rs o) (λ ss p. yes-narrower d ss p)
  yes-narrower (equal a b) rs o = compared-narrower rs o (equal_yes a b rs) (equal_yes-narrower rs o a b) (evaluate a rs) (evaluate b rs)
  yes-narrower (less a b) rs o = compared-narrower rs o (less_yes a b rs) (less_yes-narrower rs o a b) (evaluate a rs) (evaluate b rs)

  pub no-narrower : (c : Condition) (rs : Regs) → Each Ordered rs → Narrower? (narrow_no c rs) rs
  no-narrower always rs o = tt
  no-narrower never rs o = narrower-refl o
  no-narrower (negation c) rs o = yes-narrower c rs o
  no-narrower (conjunction c d) rs o = join_both-narrower (narrow_no c rs) (narrow_no d rs) rs (no-narrower c rs o) (no-narrower d rs o)
  no-narrower (equal a b) rs o = compared-narrower rs o (equal_no rs) (equal_no-narrower rs o) (evaluate a rs) (evaluate b rs)
  no-narrower (less a b) rs o = compared-narrower rs o (less_no a b rs) (less_no-narrower rs o a b) (evaluate a rs) (evaluate b rs)

-- ---- every part worked out during narrowing has a reading

-- both sides of a comparison
abbrev pub SidesRead : Arith → Arith → Regs → Type 0
SidesRead a b rs = IsValue (evaluate a rs) × IsValue (evaluate b rs)

-- what the yes rule and the no rule work out, and on which registers
abbrev mutual
  pub YesReads : Condition → Regs → Type 0
  YesReads always rs = Unit {0}
  YesReads never rs = Unit {0}
  YesReads (negation c) rs = NoReads c rs
  YesReads (conjunction c d) rs = YesReads c rs × ((ss : Regs) → narrow_yes c rs ≡ some ss → YesReads d ss)
  YesReads (equal a b) rs = SidesRead a b rs
  YesReads (less a b) rs = SidesRead a b rs

  pub NoReads : Condition → Regs → Type 0
  NoReads always rs = Unit {0}
  NoReads never rs = Unit {0}
  NoReads (negation c) rs = YesReads c rs
  NoReads (conjunction c d) rs = NoReads c rs × NoReads d rs
  NoReads (equal a b) rs = SidesRead a b rs
  NoReads (less a b) rs = SidesRead a b rs

pub narrowing-reads : (c : Condition) (rs : Regs) → Each Ordered rs → IsValue (all_parts c rs) → YesReads c rs × NoReads c rs
unfolding all_parts
narrowing-reads always rs o t = (tt, tt)
narrowing-reads never rs o t = (tt, tt)
narrowing-reads (negation c) rs o t = let h = narrowing-reads c rs o t in (h.1, h.0)
narrowing-reads (conjunction c d) rs o t =
    let p = both_values (all_parts c rs) (all_parts d rs) t in
    let h = narrowing-reads c rs o p.0 in
    let k = narrowing-reads d rs o p.1 in (
      (
        h.0,
        λ ss e.
            let n : Narrower ss rs = subst (λ (x : Option Regs). Narrower? x rs) e (yes-narrower c rs o) in
            (narrowing-reads d ss (narrower-ordered n) (parts_below d n p.1)).0,
      ),
      (h.1, k.1),
    )
narrowing-reads (equal a b) rs o t = let p = both_values (evaluate a rs) (evaluate b rs) t in (p, p)
narrowing-reads (less a b) rs o t = let p = both_values (evaluate a rs) (evaluate b rs) t in (p, p)
