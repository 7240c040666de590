-- The change, case by case.
use mathlib.Core.Path.{◌≡◌, ap, ◌∙◌}
use mathlib.Core.Bool.{false}
use Prim.Native.Nat.{ℕ, ◌+◌, ◌≤◌, ◌<◌}
use native.Mathlib.Omega.{arith}
use lib.Dec.{T}
use lib.ListN.{length}
use Rattle.rules.specs.Refusal as R
use Rattle.rules.specs.Refusal.{number, no_such_name, off_range}
use Rattle.rules.specs.Program.{Statement, Program}
use Rattle.rules.specs.Format.{Bytes, Got, bad, got, read_sheet}
use Rattle.rules.specs.Encoding.{code_of}
use Rattle.rules.proofs.Format.{times-in-order}
use Rattle.rules.proofs.IfAt.{need-yes, need-no, then-got, then-bad}
use Rattle.reader.specs.Facts.{statement_in}
use Rattle.reader.proofs.Facts.{program-facts, statement-in}
use Rattle.retimed.specs.Retime.{retimed, is_statement, may_have, on_statement, did, no_change, Done, change_times, changed, change}
use Rattle.retimed.proofs.Retime.{thread-there, statement-there, may-times, may-small}

-- ---- the statement that is named, case by case

module _ {A : Type 0} (s : Bytes) (t k : ℕ) (then : Statement → ℕ → Got A) where
  pub sheet-unread : {r : R.Refusal} {p : ℕ} → read_sheet s ≡ bad r p → on_statement s t k then ≡ bad r p
  unfolding on_statement
  sheet-unread e = then-bad _ e

  module _ (g : Program) (e : ℕ) (r : read_sheet s ≡ got g e) where
    pub statement-absent : is_statement g t k ≡ false → on_statement s t k then ≡ bad no_such_name 0
    unfolding on_statement
    statement-absent n = then-got _ r ∙ need-no (is_statement g t k) _ _ _ n

    pub statement-named : T (is_statement g t k) → on_statement s t k then ≡ then (statement_in g t k) e
    unfolding on_statement
    statement-named i = then-got _ r ∙ need-yes (is_statement g t k) _ _ _ i

-- ---- the change

module _ (s : Bytes) (t k l h : ℕ) where
  module _ (g : Program) (e : ℕ) (r : read_sheet s ≡ got g e) (i : T (is_statement g t k)) where
    pub times-off : may_have (statement_in g t k) l h ≡ false → change_times s t k l h ≡ bad off_range 0
    times-off m = statement-named s t k _ g e r i ∙ need-no (may_have (statement_in g t k) l h) _ _ _ m

    pub times-made : T (may_have (statement_in g t k) l h)
        → change_times s t k l h ≡ got (record { sheet = retimed s (statement_in g t k).place l h; change = did t k (statement_in g t k) l h }) e
    times-made m = statement-named s t k _ g e r i ∙ need-yes (may_have (statement_in g t k) l h) _ _ _ m

  -- the answer that the rule's outcome is
  pub change-refused : {r : R.Refusal} {p : ℕ} → change_times s t k l h ≡ bad r p
      → change s t k l h ≡ record { refusal = number r; place = p; change = no_change; sheet = s }
  unfolding change changed
  change-refused e = ap (changed s) e

  pub change-made : {d : Done} {e : ℕ} → change_times s t k l h ≡ got d e
      → change s t k l h ≡ record { refusal = 0; place = 0; change = d.change; sheet = d.sheet }
  unfolding change changed
  change-made e = ap (changed s) e

-- where the statement that is there has room for its times
module _ (s : Bytes) (t k : ℕ) (g : Program) (e : ℕ) (r : read_sheet s ≡ got g e) (i : T (is_statement g t k)) where
  pub statement-room : (statement_in g t k).place + 7 ≤ length s
  statement-room = omega (arith, (statement-in (program-facts s g e r) t (thread-there g t k i) k (statement-there g t k i)).head)

  module _ (l h : ℕ) (m : T (may_have (statement_in g t k) l h)) where
    pub greatest_small : h < 65536
    greatest_small = omega (arith, may-small (statement_in g t k) l h m)

    pub least_small : l < 65536
    least_small =
        let x = statement_in g t k in
        omega (arith, may-small x l h m, times-in-order (code_of x.action) l h (may-times x l h m))
