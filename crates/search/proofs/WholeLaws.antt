-- The search of a whole sheet that reads, from its index and its starting state; and of any sheet, by its index.
use Rattle.std.specs.Prelude.{Ok, Err}
use mathlib.Core.Path.{◌≡◌, sym, ap, subst, ◌∙◌}
use mathlib.Core.List.{[], ◌∷◌}
use Prim.Native.Nat.{ℕ}
use Rattle.rules.specs.Refusal.{number}
use Rattle.rules.specs.Program.{Program}
use Rattle.rules.specs.Format.{Bytes, got, read_sheet}
use Rattle.rules.specs.Search as S
use Rattle.rules.specs.Search.{End, unseen, search, start, search_from}
use Rattle.refusal.specs.declared.Fault.{Fault}
use Rattle.refusal.specs.Shape.{rule_of}
use Rattle.reader.specs.declared.Index.{Index}
use Rattle.reader.specs.Index.{index_of}
use Rattle.reader.proofs.Facts.{accepted, rejected, program-is, index-facts}
use Rattle.reader.specs.Facts.{program_in}
use Rattle.state.specs.declared.State.{State}
use Rattle.state.specs.Shape.{sizes_of, state_of}
use Rattle.search.specs.Whole.{unread, ended, end_with, search_of}

module _ (s : Bytes) (i : Index) (h : index_of (read_sheet s) ≡ Ok i) where
  pub from_first : {r : S.End} (slots : ℕ) (first : State) →
      ((g : Program) (e : ℕ) → read_sheet s ≡ got g e → state_of (sizes_of g) first ≡ start g)
      → r ≡ search i.budget (program_in s) slots (state_of (sizes_of (program_in s)) first ∷ []) unseen 0 → r ≡ search_from
      (program_in s) slots
  unfolding search_from
  from_first slots first starts found =
      let a = accepted (read_sheet s) h in
      let g = a.0 in
      let f = index-facts g a.1 h a.2 in
      found
      ∙ subst (λ (p : Program). search i.budget p slots (state_of (sizes_of p) first ∷ []) unseen 0 ≡ search_from p slots)
      (sym (program-is s g a.1 a.2))
      (ap (λ (n : ℕ). search n g slots (state_of (sizes_of g) first ∷ []) unseen 0) f.budget
      ∙ ap (λ (y : S.State). search g.header.budget g slots (y ∷ []) unseen 0) (starts g a.1 a.2))

  pub searched-read : (slots : ℕ) (e : End) → e ≡ end_with slots (program_in s) → ended i.label_low.0 i.label_high.0 e ≡ search_of slots
      (read_sheet s)
  unfolding search_of
  searched-read slots e q =
      let (g, end, r) = accepted (read_sheet s) h in
      let f = index-facts g end h r in
      (λ j. ended (f.label_low_lem j) (f.label_high_lem j) ((q ∙ ap (end_with slots) (program-is s g end r)) j)) ∙ ap (search_of slots)
      (sym r)

pub searched-unread : (slots : ℕ) (s : Bytes) (f : Fault) → index_of (read_sheet s) ≡ Err f → unread
    (number (rule_of f.refusal)) f.place ≡ search_of slots (read_sheet s)
unfolding search_of
searched-unread slots s f h = rw (rejected (read_sheet s) h)
