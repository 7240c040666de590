-- A text line by line: the rules' reading from the start is their reading from here, behind the lines so far.
use Rattle.std.specs.Prelude.{if◌then◌else◌}
use mathlib.Core.Path.{◌≡◌, refl, sym, ap, subst, ◌∙◌}
use mathlib.Core.Bool.{Bool, true, false}
use mathlib.Core.List.{List, [], ◌∷◌, ◌++◌, append_assoc, append-nil}
use Prim.Native.Nat.{ℕ, ◌-◌, ◌≤◌, ◌<◌, min}
use native.Mathlib.Omega.{arith}
use lib.ListN.{length, take, drop, length-drop}
use Rattle.rules.specs.Format.{Bytes}
use Rattle.rules.specs.Encoding.{in_row}
use Rattle.text.specs.Words.{Read, stop, took, then_read, map_read}
use Rattle.text.specs.Lines.{Line, Due, locks_due, var_due, reg_due, statement_due, due_after, read_line, Started, starts, may_end, read_lines}
use Rattle.text.specs.Convert.{Piece, written}
use Rattle.text.proofs.LinesWithin.{line-eats, lines-turn}
use Rattle.text.proofs.Within.{Eats}
use Rattle.scan.proofs.Readings.{then-stop, then-took}
use Rattle.lines.specs.Registers.{ahead_of, ahead_with, pieces_with}
use Rattle.lines.specs.Writing.{due_of}
use Rattle.convert.specs.Whole.{Pieces, Stands, Laid, SoFar, LinesMade}
use Rattle.lines.specs.declared.line.Due as D
use Rattle.lines.specs.declared.line.Due.TheVariants as due
use Rattle.convert.specs.declared.whole.Written.{Written}
use Rattle.convert.proofs.HeadReading.{place-of}
use Rattle.convert.proofs.Ahead.{ahead_step, piece_of, pieces_more, pieces-all}

abbrev lines_from : Bytes → Due → ℕ → Read (List Started)
lines_from s d q = read_lines (length s) (length (drop q s)) d (drop q s)

-- ---- one turn of the rules' reading

map-nothing : (g : Read (List Started)) → g ≡ map_read (λ ys. [] ++ ys) g
unfolding map_read
map-nothing (stop t) = refl
map-nothing (took ys t) = refl

map_more : (zs : List Started) (z : Started) (g : Read (List Started))
    → map_read (λ ys. zs ++ ys) (map_read (λ ys. z ∷ ys) g) ≡ map_read (λ ys. zs ++ (z ∷ []) ++ ys) g
unfolding map_read
map_more zs z (stop t) = refl
map_more zs z (took ys t) = ap (λ us. took us t) (sym (append_assoc zs (z ∷ []) ys))

module _ (s : Bytes) (d : Due) (q : ℕ) where
  abbrev further : Line → Bytes → Read (List Started)
  further x r = map_read (λ xs. starts (length s - length (drop q s)) x ∷ xs) (read_lines (length s) (length r) (due_after x) r)

  turn : (b : Bool) → may_end d (drop q s) ≡ b
      → lines_from s d q ≡ (if b then took [] (drop q s) else then_read (read_line d (drop q s)) further)
  turn b e = lines-turn (length s) d (drop q s) ∙ ap (λ c. if c then took [] (drop q s) else then_read (read_line d (drop q s)) further) e

  turn-stop : (t : ℕ) → may_end d (drop q s) ≡ false → read_line d (drop q s) ≡ stop (drop t s) → lines_from s d q ≡ stop (drop t s)
  turn-stop t e h = turn false e ∙ then-stop (read_line d (drop q s)) further h

  turn-took : (t : ℕ) {x : Line} → q ≤ length s → may_end d (drop q s) ≡ false → read_line d (drop q s) ≡ took x (drop t s)
      → lines_from s d q ≡ map_read (λ xs. starts q x ∷ xs) (lines_from s (due_after x) t)
  turn-took t {x} l e h = turn false e ∙ then-took (read_line d (drop q s)) further h
      ∙ ap (λ p. map_read (λ xs. starts p x ∷ xs) (lines_from s (due_after x) t)) (place-of s q l)

-- it is over only behind a statement, with nothing left
ends_there : (d : Due) (t : Bytes) → may_end d t ≡ true → (t ≡ []) × (ahead_of d t ≡ 0)
unfolding may_end ahead_of
ends_there locks_due t e = let z : ◌≡◌ {A = ℕ} 0 1 = cc in absurd (omega arith)
ends_there var_due t e = let z : ◌≡◌ {A = ℕ} 0 1 = cc in absurd (omega arith)
ends_there reg_due t e = let z : ◌≡◌ {A = ℕ} 0 1 = cc in absurd (omega arith)
ends_there statement_due [] e = (refl, refl)
ends_there statement_due (b ∷ t) e = let z : ◌≡◌ {A = ℕ} 0 1 = cc in absurd (omega arith)

-- ---- the lines so far

pub record Going (s : Bytes) (p : ℕ) (x : Piece) (out : Bytes) (target : ℕ) (w : Written) (q : ℕ) (d : D.Due) : Type 0 where
  pub lines : List Started
  pub reads : lines_from s locks_due p ≡ map_read (λ ys. lines ++ ys) (lines_from s (due_of d) q)
  pub so_far : SoFar (x ∷ pieces_with (ahead_of (due_of d) (drop q s)) lines) out target w

going_start : (s : Bytes) (p : ℕ) (x : Piece) (out : Bytes) (target : ℕ) (w : Written) → SoFar (x ∷ []) out target w
    → Going s p x out target w p due.Locks
unfolding pieces_with
going_start s p x out target w h = record { lines = []; reads = map-nothing (lines_from s locks_due p); so_far = h }

module _ (s : Bytes) (p : ℕ) (x : Piece) (out : Bytes) (target : ℕ) (w : Written) (q : ℕ) (d : D.Due)
    (g : Going s p x out target w q d) where
  pub going-over : may_end (due_of d) (drop q s) ≡ true → LinesMade x out target (lines_from s locks_due p) w
  unfolding map_read
  going-over e =
      let z = ends_there (due_of d) (drop q s) e in
      record {
        lines = g.lines;
        reads = g.reads ∙ ap (map_read (λ ys. g.lines ++ ys)) (turn s (due_of d) q true e ∙ ap (λ t. took [] t) z.0)
            ∙ ap (λ zs. took zs []) (append-nil g.lines);
        so_far = subst (λ (xs : List Piece). SoFar (x ∷ xs) out target w)
            (ap (λ n. pieces_with n g.lines) z.1 ∙ pieces-all g.lines) g.so_far;
      }

  pub going-stop : (t : ℕ) → may_end (due_of d) (drop q s) ≡ false → read_line (due_of d) (drop q s) ≡ stop (drop t s)
      → lines_from s locks_due p ≡ stop (drop t s)
  unfolding map_read
  going-stop t e h = g.reads ∙ ap (map_read (λ ys. g.lines ++ ys)) (turn-stop s (due_of d) q t e h)

  -- the pieces so far still stand where a line's field was written behind them
  same-front : {mid : Bytes} {xs : List Piece} → SoFar xs out target w → length mid ≡ length out → length out < 65536
      → take (min w.end (length out)) mid ≡ take (min w.end (length out)) out → SoFar xs mid target w
  same-front {mid} {xs} h l k f =
      let i = h.end_is in
      record {
        whole_is = h.whole_is;
        end_is = h.end_is;
        stands = λ r v.
            let n : min w.end (length out) ≡ length (in_row written xs) = omega arith in
            subst (λ z. take z mid ≡ take z out) n f ∙ h.stands (omega arith) (omega arith);
        start_is = λ r. h.start_is (omega arith);
        fits_is = λ r. h.fits_is (omega arith);
      }

  going_more : {mid after : Bytes} {w' : Written} {d' : D.Due} {t n : ℕ} {f : Bool} → q ≤ length s → length mid ≡ length out
      → length out < 65536
      → may_end (due_of d) (drop q s) ≡ false → Laid s out w.end w.whole mid (read_line (due_of d) (drop q s)) (due_of d') t n f
      → ((xs : Pieces) (y : Piece) → SoFar xs mid target w → y.start ≡ q → y.fits ≡ f → n ≡ min (length y.whole) 65536
      → (w.whole ≤ length mid → Stands mid w.end y.whole f)
      → SoFar (xs ++ (y ∷ [])) after target w')
      → Going s p x after target w' t d'
  going_more {mid} {after} {w'} {d'} {t} {n} {f} l lm lo e v st =
      let y = v.line in
      let m = ahead_of (due_after y) (drop t s) in
      let zs = g.lines in
      let a : ahead_of (due_of d) (drop q s) ≡ ahead_with m (starts q y ∷ []) = ahead_step (due_of d) (drop q s) y (drop t s) q v.is in
      let before : SoFar (x ∷ pieces_with (ahead_of (due_of d) (drop q s)) zs) mid target w = same-front g.so_far lm lo v.kept in
      let now : SoFar ((x ∷ pieces_with (ahead_of (due_of d) (drop q s)) zs) ++ (piece_of m q y ∷ [])) after target w' =
      st (x ∷ pieces_with (ahead_of (due_of d) (drop q s)) zs) (piece_of m q y) before refl (sym v.fits_is) v.size_is
      (λ u. v.stands (omega arith)) in
      let same : pieces_with (ahead_of (due_of d) (drop q s)) zs ++ (piece_of m q y ∷ []) ≡ pieces_with (ahead_of (due_of d') (drop t s))
      (zs ++ (starts q y ∷ [])) =
      ap (λ k. pieces_with k zs ++ (piece_of m q y ∷ [])) a ∙ sym (pieces_more m zs q y)
      ∙ ap (λ k. pieces_with (ahead_of k (drop t s)) (zs ++ (starts q y ∷ []))) (sym v.due_is) in
      record {
        lines = zs ++ (starts q y ∷ []);
        reads =
            g.reads ∙ ap (map_read (λ ys. zs ++ ys)) (turn-took s (due_of d) q t l e v.is)
            ∙ map_more zs (starts q y) (lines_from s (due_after y) t)
            ∙ ap (λ k. map_read (λ ys. zs ++ (starts q y ∷ []) ++ ys) (lines_from s k t)) (sym v.due_is);
        so_far = subst (λ (xs : List Piece). SoFar (x ∷ xs) after target w') same now;
      }

-- a line that was read is behind its first byte
pub line-further : (s : Bytes) (d : Due) (q t : ℕ) {x : Line} → q ≤ length s → t ≤ length s → read_line d (drop q s) ≡ took x (drop t s)
    → length s - t < length s - q
line-further s d q t l k e =
    let h : length (drop t s) < length (drop q s) = subst (Eats (length (drop q s))) e (line-eats d (drop q s)) in
    let a : length (drop q s) ≡ length s - q = length-drop q s in
    let b : length (drop t s) ≡ length s - t = length-drop t s in
    omega arith

-- ---- the loop

pub record Loop (s : Bytes) (p : ℕ) (out₀ : Bytes) (target : ℕ) (w₀ : Written) (out : Bytes) (w : Written) (q : ℕ)
    (d : D.Due) : Type 0 where
  pub inside : q ≤ length s
  pub end_low : w.end ≤ 65536
  pub whole_low : w.whole ≤ 65536
  pub room : length out ≡ length out₀
  pub small : length out < 65536
  pub going : (x : Piece) → SoFar (x ∷ []) out₀ target w₀ → Going s p x out target w q d

pub loop-start : (s : Bytes) (p : ℕ) (out : Bytes) (target : ℕ) (w : Written) → p ≤ length s → w.end ≤ 65536 → w.whole ≤ 65536
    → length out < 65536
    → Loop s p out target w out w p due.Locks
loop-start s p out target w h k l
    m = record { inside = h; end_low = k; whole_low = l; room = refl; small = m; going = λ x g. going_start s p x out target w g }

module _ (s : Bytes) (p : ℕ) (out₀ : Bytes) (target : ℕ) (w₀ : Written) (out : Bytes) (w : Written) (q : ℕ) (d : D.Due)
    (i : Loop s p out₀ target w₀ out w q d) where
  pub loop-more : (mid after : Bytes) (w' : Written) (d' : D.Due) (t n : ℕ) (f : Bool) → t ≤ length s → w'.end ≤ 65536 → w'.whole ≤ 65536
      → length mid ≡ length out → length after ≡ length mid
      → may_end (due_of d) (drop q s) ≡ false → Laid s out w.end w.whole mid (read_line (due_of d) (drop q s)) (due_of d') t n f
      → ((xs : Pieces) (y : Piece) → SoFar xs mid target w → y.start ≡ q → y.fits ≡ f → n ≡ min (length y.whole) 65536
      → (w.whole ≤ length mid → Stands mid w.end y.whole f)
      → SoFar (xs ++ (y ∷ [])) after target w')
      → Loop s p out₀ target w₀ after w' t d'
  loop-more mid after w' d' t n f ht he hw lm la e v st =
      let r = i.room in
      let sm = i.small in
      record {
        inside = ht;
        end_low = he;
        whole_low = hw;
        room = omega arith;
        small = omega arith;
        going = λ x g. going_more s p x out target w q d (i.going x g) i.inside lm (omega arith) e v st;
      }
