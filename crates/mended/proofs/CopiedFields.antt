-- Fields that the reader reads and the walk of mending copies: header, locks, variables, registers.
use mathlib.Core.Path.{◌≡◌, refl, sym, ap, ◌∙◌, subst}
use mathlib.Core.Bool.{Bool, true, false, ◌&&◌, not}
use mathlib.Core.Option.{Option, none, some}
use mathlib.Core.List.{List, [], ◌∷◌, ◌++◌}
use Prim.Native.Nat.{ℕ, zero, suc, ◌+◌, ◌≤◌}
use native.Mathlib.Omega.{arith}
use lib.Dec.{T, leb, eqb, leb→le, eqb→eq}
use lib.Signed.{le_z, le_z_yes, lt_z_yes, clash_ℤ}
use lib.ListN.{length, drop}
use lib.Seq.{slice}
use borrow.Author.Tests.{le-leb, lt-leb}
use Rattle.rules.specs.Constants.{most_variables, most_locks}
use Rattle.rules.specs.Interval.{Interval, interval}
use Rattle.rules.specs.Program.{Header}
use Rattle.rules.specs.Format.{Bytes, byte, num16, num32, int32, has_head, has_body, due, header_fits, read_header, read_locks, read_range, variable_here, read_variables, read_registers}
use Rattle.rules.proofs.Base.{if-ind, and_left, and_right}
use Rattle.rules.proofs.IfAt.{IfAt, then_at, weaker-at, when-got}
use Rattle.rules.proofs.FieldAt.{due-field, sized-field, field-at}
use Rattle.rules.proofs.FieldBytes.{header-fits}
use Rattle.rules.proofs.Row.{Row, end, next, RowBehind, many-row}
use Rattle.rules.proofs.SheetRows.{VariableSays, variable-says}
use Rattle.mended.specs.Mend.{Mended, copied, ◌then◌, is_field, behind, reversed, mended_field, open_after, closes_at, added, mend_from}
use Rattle.mended.proofs.Slices.{slice-drop}
use Rattle.mended.proofs.Walk.{mend-field, mend-end, reversed-cases}

module _ (s : Bytes) where
  -- ---- where the walk copies

  -- from a place on, behind a statement that may want a halt, nothing is changed
  abbrev pub Copies : Option ℕ → ℕ → Type 0
  Copies last at = mend_from last s at ≡ copied (drop at s)

  -- the walk copies from a place on, if it does so from another
  abbrev pub Through : Option ℕ → ℕ → Option ℕ → ℕ → Type 0
  Through last at last' q = Copies last' q → Copies last at

  nothing-added : (b : Bool) (last : Option ℕ) → (T b → last ≡ none) → added b last ≡ copied []
  unfolding added
  nothing-added false last h = refl
  nothing-added true last h = ap (added true) (h tt)

  pub copies-end : (at : ℕ) → at ≡ length s → Copies none at
  unfolding is_field has_head
  copies-end at e =
      let none_here : is_field s at ≡ false = rw (lt-leb (at + 3) (length s) (omega arith)) in
      mend-end s none at (omega arith) none_here ∙ ap (λ (m : Mended). m then copied (drop at s)) (nothing-added (closes_at s at) none (λ _. refl))

  plain : (at : ℕ) → (T (reversed s at) → ⊥) → mended_field s at ≡ copied (slice at (behind s at) s)
  unfolding mended_field
  plain at h = if-ind (reversed s at) _ _ (λ x. x ≡ copied (slice at (behind s at) s)) (λ t. absurd (h t)) (λ _. refl)

  is_field_lem : (at : ℕ) → behind s at ≤ length s → is_field s at ≡ true
  unfolding is_field has_head has_body
  is_field_lem at h = let l : at + 3 ≤ length s = omega arith in rw (le-leb (at + 3) (length s) l, le-leb (behind s at) (length s) h)

  -- a whole field whose ends are in order, where no halt is wanted
  pub copies-field : (at : ℕ) (last : Option ℕ) → behind s at ≤ length s → (T (reversed s at) → ⊥) → (T (closes_at s at) → last ≡ none) → Through last at (open_after s at) (behind s at)
  copies-field at last h order closed rest =
      mend-field s last at (omega arith) (is_field_lem at h)
      ∙ (λ i. nothing-added (closes_at s at) last closed i then plain at order i then rest i) ∙ ap copied (slice-drop at (behind s at) s (omega arith))

  pub not-open : (at : ℕ) → (byte s at ≡ 6 → 5 ≤ num16 s (at + 1) → T (not (eqb (byte s (at + 7)) 0)) → ⊥) → open_after s at ≡ none
  unfolding open_after
  not-open at h =
      let a = eqb (byte s at) 6 in
      let b = leb 5 (num16 s (at + 1)) in
      let c = not (eqb (byte s (at + 7)) 0) in
      if-ind (a && (b && c)) (some at) none (λ o. o ≡ none)
      (λ t. let u = and_right a (b && c) t in
      absurd (h (eqb→eq (byte s at) 6 (and_left a (b && c) t)) (leb→le 5 (num16 s (at + 1)) (and_left b c u)) (and_right b c u)))
      (λ _. refl)

  -- ---- fields that are no statement

  through-field : (at q : ℕ) → behind s at ≤ length s → (T (reversed s at) → ⊥) → behind s at ≡ q → open_after s at ≡ none → Through none at none q
  through-field at q h order e o c =
      copies-field at none h order (λ _. refl) (subst (λ (l : Option ℕ). Copies l (behind s at)) (sym o) (subst (Copies none) (sym e) c))

  -- a field of one byte: a number of locks or of registers
  pub through-short : (at : ℕ) → num16 s (at + 1) ≡ 1 → at + 3 + 1 ≤ length s → Through none at none (at + 3 + 1)
  through-short at n h =
      through-field at (at + 3 + 1) (omega arith) (reversed-cases s at ⊥ (λ _ m _. omega arith) (λ _ m _. omega arith) (λ _ m _. omega arith)) (omega arith)
      (not-open at (λ _ m _. omega arith))

  pub header-through : IfAt (λ _ q. Through none 0 none q) (read_header s)
  unfolding read_header
  header-through =
      let ok = header_fits (num32 s 3) (num32 s 7) (num32 s 11) (num32 s 15) in
      field-at (λ (_ : Header) (q : ℕ). Through none 0 none q) 1 16 s 0 ok _ (λ f t.
      let tag : byte s 0 ≡ 1 = f.tag_is in
      let n : num16 s 1 ≡ 16 = f.size_is in
      let l : 19 ≤ length s = f.fits in
      let o : num32 s 11 ≤ num32 s 15 = (header-fits (record { limit = num32 s 3; budget = num32 s 7; label_low = num32 s 11; label_high = num32 s 15 }) t).label_ordered in
      through-field 0 19 (omega arith) (reversed-cases s 0 ⊥ (λ _ _ l. omega arith) (λ _ m _. omega arith) (λ m _ _. omega arith)) (omega arith)
      (not-open 0 (λ m _ _. omega arith)))

  pub locks-through : (at : ℕ) → IfAt (λ _ q. Through none at none q) (read_locks s at)
  unfolding read_locks
  locks-through at =
      field-at (λ (_ q : ℕ). Through none at none q) 3 1 s at (leb (byte s (at + 3)) most_locks) (byte s (at + 3)) (λ f _. through-short at f.size_is f.fits)

  range-through : (tag at : ℕ) → byte s at ≡ tag → (tag ≡ 6 → ⊥) → IfAt (λ _ q. Through none at none q) (read_range s at)
  unfolding read_range
  range-through tag at t other =
      let a = int32 s (at + 3) in
      let b = int32 s (at + 7) in
      sized-field (λ (_ : Interval) (q : ℕ). Through none at none q) tag 8 s at (le_z a b) (interval a b) t (λ f o.
      let n : num16 s (at + 1) ≡ 8 = f.size_is in
      let l = f.fits in
      through-field at (at + 3 + 8) (omega arith)
      (reversed-cases s at ⊥ (λ _ m _. omega arith) (λ _ _ l. clash_ℤ {a = b} {b = a} (lt_z_yes l) (le_z_yes o)) (λ m _ _. other (sym t ∙ m))) (omega arith)
      (not-open at (λ m _ _. other (sym t ∙ m))))

  variables-row : {n p : ℕ} {vs : List Interval} {q : ℕ} → Row (λ n p. variable_here s p) (λ p. read_range s p) n p vs q → Through none p none q
  variables-row (end d) c = c
  variables-row {p = p} (next {q = q} {x = x} m e r) c =
      let tag = subst (VariableSays s p) m (variable-says s p) in
      when-got (λ (_ : Interval) (q : ℕ). Through none p none q) (read_range s p) (range-through 2 p tag (λ u. omega arith)) x q e (variables-row r c)

  pub variables-through : (at : ℕ) → IfAt (λ _ q. Through none at none q) (read_variables s at)
  unfolding read_variables
  variables-through at =
      weaker-at (RowBehind (λ n p. variable_here s p) (λ p. read_range s p) most_variables [] at) (λ (_ : List Interval) (q : ℕ). Through none at none q) (read_variables s at)
      (many-row (λ n p. variable_here s p) (λ p. read_range s p) most_variables [] at) (λ vs q b. variables-row b.reads)

  pub registers-through : (k : ℕ) (rs : List Interval) (at : ℕ) → IfAt (λ _ q. Through none at none q) (read_registers k rs s at)
  unfolding read_registers
  registers-through zero rs at = λ c. c
  registers-through (suc k) rs at =
      let P : ℕ → List Interval → ℕ → Type 0 = λ p _ q. Through none p none q in
      let Q : Interval → ℕ → Type 0 = λ _ q. Through none at none q in
      then_at Q (P at) (due 5 s at (read_range s at)) (λ i q. read_registers k (rs ++ i ∷ []) s q)
      (due-field Q 5 s at (read_range s at) (λ t. range-through 5 at t (λ u. omega arith)))
      (λ i q t. weaker-at (P q) (P at) (read_registers k (rs ++ i ∷ []) s q) (registers-through k (rs ++ i ∷ []) q) (λ ys p u c. t (u c)))
