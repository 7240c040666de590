-- The statements of a thread and their bytes: a row up to the next thread or the sheet's end, and the closing checks.
use Rattle.std.specs.Prelude.{if◌then◌else◌}
use mathlib.Core.Path.{◌≡◌, refl, sym, ap, subst, ◌∙◌}
use mathlib.Core.Bool.{Bool, true, false, not}
use mathlib.Core.List.{List, [], ◌∷◌}
use Prim.Native.Nat.{ℕ, zero, suc, ◌+◌, ◌≤◌, ◌<◌}
use native.Mathlib.Omega.{arith}
use lib.Dec.{T, leb, eqb, leb→le, eqb→eq}
use lib.ListN.{length}
use borrow.Author.Tests.{le-leb, eq-eqb, ne_eqb}
use Rattle.rules.specs.Base.{Each, nil, ◌&◌}
use Rattle.rules.specs.Refusal.{short, out_of_turn, no_halt, no_such_name}
use Rattle.rules.specs.Constants.{most_statements}
use Rattle.rules.specs.Program.{is_halt, Statement}
use Rattle.rules.specs.Format.{Bytes, AreBytes, byte, Got, bad, got, Here, wrong, more, done, has_head, Names, read_statement, statement_here, read_statements, last_halts, target_fits, targets_fit, close}
use Rattle.rules.specs.Encoding.{in_row, encode_body, encode_statement, placed_statement, placed_row}
use Rattle.rules.specs.Fits.{StatementFits, LastHalts}
use Rattle.rules.proofs.IfAt.{IfAt, need-at, when-got, need-yes}
use Rattle.rules.proofs.Stands.{Stands, field-tag}
use Rattle.rules.proofs.StatementBytes.{statement-at, statement-reads}
use Rattle.rules.proofs.Row.{Row, RowBehind, many-row, row_reads, row_at, row_of, placed-length}

-- ---- where statements go on, and where a thread ends

pub data Ends (s : Bytes) (p : ℕ) : Type 0 where
  at_end : p ≡ length s → Ends s p
  at_thread : p + 3 ≤ length s → byte s p ≡ 4 → Ends s p

-- what a place says of itself where a statement may stand, by the tests on it
abbrev Says : Bytes → ℕ → ℕ → Here → Type 0
Says s n p (wrong r) = Unit {0}
Says s n p more = byte s p ≡ 6
Says s n p done = (1 ≤ n) × Ends s p

says_first : (s : Bytes) (p : ℕ) (a b : Bool) → (T b → byte s p ≡ 6) → Says s 0 p (if not a then wrong short else if b then more else wrong out_of_turn)
says_first s p false b f = tt
says_first s p true true f = f tt
says_first s p true false f = tt

says-later : (s : Bytes) (n p : ℕ) (z a b c : Bool) → (T z → p ≡ length s) → (T a → p + 3 ≤ length s) → (T b → byte s p ≡ 6) → (T c → byte s p ≡ 4)
    → Says s (suc n) p (if z then done else if not a then wrong short else if b then more else if c then done else wrong out_of_turn)
says-later s n p true a b c e h f g = (omega arith, at_end (e tt))
says-later s n p false false b c e h f g = tt
says-later s n p false true true c e h f g = f tt
says-later s n p false true false true e h f g = (omega arith, at_thread (h tt) (g tt))
says-later s n p false true false false e h f g = tt

statement-says : (s : Bytes) (n p : ℕ) → Says s n p (statement_here n s p)
unfolding statement_here has_head
statement-says s zero p = says_first s p (leb (p + 3) (length s)) (eqb (byte s p) 6) (λ t. eqb→eq (byte s p) 6 t)
statement-says s (suc n) p =
    says-later s n p (eqb p (length s)) (leb (p + 3) (length s)) (eqb (byte s p) 6) (eqb (byte s p) 4)
    (λ t. eqb→eq p (length s) t) (λ t. leb→le (p + 3) (length s) t) (λ t. eqb→eq (byte s p) 6 t) (λ t. eqb→eq (byte s p) 4 t)

pub when-more : (s : Bytes) (n p : ℕ) → statement_here n s p ≡ more → byte s p ≡ 6
when-more s n p e = subst (Says s n p) e (statement-says s n p)

pub when-done : (s : Bytes) (n p : ℕ) → statement_here n s p ≡ done → (1 ≤ n) × Ends s p
when-done s n p e = subst (Says s n p) e (statement-says s n p)

pub here-statement : (s : Bytes) (n p : ℕ) → p + 3 ≤ length s → byte s p ≡ 6 → statement_here n s p ≡ more
unfolding statement_here has_head
here-statement s zero p h b = rw (le-leb (p + 3) (length s) h, b)
here-statement s (suc n) p h b = rw (ne_eqb p (length s) (λ e. omega arith), le-leb (p + 3) (length s) h, b)

pub statement-more : (s : Bytes) (n p : ℕ) (x : Statement) {q : ℕ} → Stands (encode_statement x) s p q → statement_here n s p ≡ more
unfolding encode_statement
statement-more s n p x {q} b =
    let i = b.inside in let m = b.ends in here-statement s n p (omega arith) (field-tag 6 (encode_body x.least x.greatest x.action) b)

pub here-ends : (s : Bytes) (n p : ℕ) → Ends s p → statement_here (suc n) s p ≡ done
unfolding statement_here has_head
here-ends s n p (at_end e) = rw (eq-eqb p (length s) e)
here-ends s n p (at_thread h b) = rw (ne_eqb p (length s) (λ e. omega arith), le-leb (p + 3) (length s) h, b)

-- ---- the closing checks

abbrev pub Targets : ℕ → List Statement → Type 0
Targets n xs = Each (λ (x : Statement). T (target_fits n x.action)) xs

last-at : {A : Type 0} (P : A → ℕ → Type 0) (xs : List Statement) (g : Got A) → 1 ≤ length xs → (LastHalts xs → IfAt P g) → IfAt P (last_halts xs g)
unfolding last_halts
last-at P [] g h f = absurd (omega arith)
last-at P (x ∷ []) g h f = need-at P (is_halt x.action) no_halt x.place g f
last-at P (x ∷ y ∷ ys) g h f = last-at P (y ∷ ys) g (omega arith) f

targets-at : {A : Type 0} (P : A → ℕ → Type 0) (n : ℕ) (xs : List Statement) (g : Got A) → (Targets n xs → IfAt P g) → IfAt P (targets_fit n xs g)
unfolding targets_fit
targets-at P n [] g f = f nil
targets-at P n (x ∷ xs) g f = need-at P (target_fits n x.action) no_such_name x.place (targets_fit n xs g) (λ t. targets-at P n xs g (λ ts. f (t & ts)))

last-yes : {A : Type 0} (xs : List Statement) (g : Got A) → LastHalts xs → last_halts xs g ≡ g
unfolding last_halts
last-yes [] g h = absurd h
last-yes (x ∷ []) g h = need-yes (is_halt x.action) _ _ g h
last-yes (x ∷ y ∷ ys) g h = last-yes (y ∷ ys) g h

targets-yes : {A : Type 0} (n : ℕ) (xs : List Statement) (g : Got A) → Targets n xs → targets_fit n xs g ≡ g
unfolding targets_fit
targets-yes n [] g ts = refl
targets-yes n (x ∷ xs) g (t & ts) = need-yes (target_fits n x.action) _ _ _ t ∙ targets-yes n xs g ts

close-yes : (xs : List Statement) (q : ℕ) → LastHalts xs → Targets (length xs) xs → close (got xs q) ≡ got xs q
unfolding close
close-yes xs q h t = last-yes xs _ h ∙ targets-yes (length xs) xs (got xs q) t

-- places do not matter to them
placed-last : (p : ℕ) (xs : List Statement) → LastHalts xs → LastHalts (placed_row placed_statement encode_statement p xs)
unfolding placed_row placed_statement
placed-last p [] h = h
placed-last p (x ∷ []) h = h
placed-last p (x ∷ y ∷ ys) h = placed-last (p + length (encode_statement x)) (y ∷ ys) h

placed-targets : (n p : ℕ) (xs : List Statement) → Targets n xs → Targets n (placed_row placed_statement encode_statement p xs)
unfolding placed_row placed_statement
placed-targets n p [] nil = nil
placed-targets n p (x ∷ xs) (t & ts) = t & placed-targets n (p + length (encode_statement x)) xs ts

-- ---- the statements of a thread

pub record StatementsAt (ns : Names) (s : Bytes) (p : ℕ) (xs : List Statement) (q : ℕ) : Type 0 where
  pub bytes : Stands (in_row encode_statement xs) s p q
  pub placed : placed_row placed_statement encode_statement p xs ≡ xs
  pub fits : Each (StatementFits ns) xs
  pub few : length xs ≤ most_statements
  pub last_halts_lem : LastHalts xs
  pub targets : Targets (length xs) xs
  pub ends : Ends s q

module _ {s : Bytes} (o : AreBytes s) (ns : Names) (p : ℕ) (le : p ≤ length s) where
  row-closed : (zs : List Statement) (q : ℕ) → RowBehind (λ n p. statement_here n s p) (λ p. read_statement ns s p) most_statements [] p zs q
      → IfAt (StatementsAt ns s p) (close (got zs q))
  unfolding close
  row-closed zs q b =
      let r = subst (λ l. Row (λ n p. statement_here n s p) (λ p. read_statement ns s p) 0 p l q) (sym b.all) b.reads in
      let w = row_at encode_statement placed_statement (StatementFits ns) s (λ n p. statement_here n s p) (λ p. read_statement ns s p) (λ _. Unit {0})
      (λ n p x q _ m e. (when-got _ (read_statement ns s p) (statement-at o ns p (when-more s n p m)) x q e, tt)) le tt r in
      let d = when-done s (0 + length zs) q w.ends in
      let some = d.0 in
      let few : length zs ≤ most_statements = subst (λ (l : List Statement). length l ≤ most_statements) (sym b.all) b.few in
      last-at (StatementsAt ns s p) zs _ (omega arith) (λ last.
      targets-at (StatementsAt ns s p) (length zs) zs (got zs q) (λ targets.
      record { bytes = w.bytes; placed = w.placed; fits = w.good; few = few; last_halts_lem = last; targets = targets; ends = d.1 }))

  closed : (g : Got (List Statement)) → IfAt (RowBehind (λ n p. statement_here n s p) (λ p. read_statement ns s p) most_statements [] p) g → IfAt (StatementsAt ns s p) (close g)
  unfolding close
  closed (bad r q) h = tt
  closed (got zs q) h = row-closed zs q h

  pub statements-at : IfAt (StatementsAt ns s p) (close (read_statements ns s p))
  unfolding read_statements
  statements-at = closed (read_statements ns s p) (many-row (λ n p. statement_here n s p) (λ p. read_statement ns s p) most_statements [] p)

-- ---- the encoding of statements that fit reads as them

module _ {s : Bytes} (ns : Names) (xs : List Statement) {p q : ℕ}
    (fits : Each (StatementFits ns) xs) (few : length xs ≤ most_statements) (last : LastHalts xs) (targets : Targets (length xs) xs)
    (h : Stands (in_row encode_statement xs) s p q) (e : Ends s q) where
  one-reads : (n p : ℕ) (x : Statement) (q : ℕ) → StatementFits ns x → Stands (encode_statement x) s p q → Unit {0}
      → (statement_here n s p ≡ more) × (read_statement ns s p ≡ got (placed_statement p x) q)
  one-reads n p x q f b _ = (statement-more s n p x b, statement-reads ns p x f b)

  last_done : (xs : List Statement) → LastHalts xs → statement_here (0 + length xs) s q ≡ done
  last_done [] l = absurd l
  last_done (x ∷ xs) l = let m : 0 + suc (length xs) ≡ suc (length xs) = omega arith in ap (λ (j : ℕ). statement_here j s q) m ∙ here-ends s (length xs) q e

  pub statements-read : close (read_statements ns s p) ≡ got (placed_row placed_statement encode_statement p xs) q
  unfolding read_statements
  statements-read =
      let ys = placed_row placed_statement encode_statement p xs in
      let n : length ys ≡ length xs = placed-length placed_statement encode_statement p xs in
      let row = row_of encode_statement placed_statement (StatementFits ns) s (λ n p. statement_here n s p) (λ p. read_statement ns s p) (λ _. Unit {0}) (λ _ _ _ _. tt) one-reads
      xs 0 p fits h tt (last_done xs last) in
      ap close (row_reads (λ n p. statement_here n s p) (λ p. read_statement ns s p) most_statements [] row (omega arith))
      ∙ close-yes ys q (placed-last p xs last) (subst (λ (m : ℕ). Targets m ys) (sym n) (placed-targets (length xs) p xs targets))
