-- Pieces one behind the other, at the front of a buffer.
use Rattle.std.specs.Prelude.{if◌then◌else◌, Option}
use mathlib.Core.Path.{◌≡◌, refl, sym, ap, subst, ◌∙◌}
use mathlib.Core.Bool.{Bool, true, false}
use mathlib.Core.List.{List, [], ◌∷◌, ◌++◌, append_assoc, append-nil}
use Prim.Native.Nat.{ℕ, ◌+◌, ◌-◌, ◌≤◌, ◌<◌, min}
use native.Mathlib.Omega.{arith}
use lib.Dec.{ltb}
use lib.ListN.{length, take, drop, length-append}
use lib.Seq.{sets, sets-eq, length-sets, take_at, take-add}
use borrow.Author.Tests.{lt-ltb, le-ltb, ltb-true, ltb-false}
use Rattle.rules.specs.Format.{Bytes}
use Rattle.rules.specs.Encoding.{in_row}
use Rattle.text.specs.Convert.{Piece, written, piece_at}
use Rattle.convert.specs.Whole.{Stands, SoFar, at_target, written_of}
use Rattle.convert.specs.declared.whole.Written.{Written}

-- ---- rows

row_more : {A : Type 0} (f : A → Bytes) (xs : List A) (x : A) → in_row f (xs ++ (x ∷ [])) ≡ in_row f xs ++ f x
unfolding in_row
row_more f [] x = append-nil (f x)
row_more f (y ∷ xs) x = ap (λ r. f y ++ r) (row_more f xs x) ∙ sym (append_assoc (f y) (in_row f xs) (f x))

row-length : {A : Type 0} (f : A → Bytes) (xs : List A) (x : A) → length (in_row f (xs ++ (x ∷ []))) ≡ length (in_row f xs) + length (f x)
row-length f xs x = ap length (row_more f xs x) ∙ length-append (in_row f xs) (f x)

-- ---- the piece at a place

abbrev none : Piece
none = record { start = 0; whole = []; fits = true }

at_first : (x : Piece) (xs : List Piece) (p : ℕ) → p < length (written x) → piece_at (x ∷ xs) p ≡ x
unfolding piece_at
at_first x xs p h = let e = lt-ltb p (length (written x)) h in rw e

at-later : (x : Piece) (xs : List Piece) (p : ℕ) → length (written x) ≤ p → piece_at (x ∷ xs) p ≡ piece_at xs (p - length (written x))
unfolding piece_at
at-later x xs p h = let e = le-ltb p (length (written x)) h in rw e

head-row : (x : Piece) (xs : List Piece) → length (in_row written (x ∷ xs)) ≡ length (written x) + length (in_row written xs)
unfolding in_row
head-row x xs = length-append (written x) (in_row written xs)

nothing-row : length (in_row written []) ≡ 0
unfolding in_row
nothing-row = refl

at-past : (xs : List Piece) (p : ℕ) → length (in_row written xs) ≤ p → piece_at xs p ≡ none
unfolding piece_at
at-past [] p h = refl
at-past (x ∷ xs) p h =
    let e = head-row x xs in
    let l : length (written x) ≤ p = omega arith in
    at-later x xs p l ∙ at-past xs (p - length (written x)) (omega arith)

at_before : (xs ys : List Piece) (p : ℕ) → p < length (in_row written xs) → piece_at (xs ++ ys) p ≡ piece_at xs p
at_before [] ys p h = let e = nothing-row in absurd (omega arith)
at_before (x ∷ xs) ys p h = by (ltb p (length (written x))) refl (λ l. at_before xs ys (p - length (written x)) l)
  where
    by : (t : Bool) → ltb p (length (written x)) ≡ t
        → (p - length (written x) < length (in_row written xs)
        → piece_at (xs ++ ys) (p - length (written x)) ≡ piece_at xs (p - length (written x)))
        → piece_at (x ∷ (xs ++ ys)) p ≡ piece_at (x ∷ xs) p
    by true e ih = let l = ltb-true p (length (written x)) e in at_first x (xs ++ ys) p l ∙ sym (at_first x xs p l)
    by false e ih =
        let l = ltb-false p (length (written x)) e in
        let r = head-row x xs in
        at-later x (xs ++ ys) p l ∙ ih (omega arith) ∙ sym (at-later x xs p l)

at-behind : (xs ys : List Piece) (p : ℕ) → length (in_row written xs) ≤ p
    → piece_at (xs ++ ys) p ≡ piece_at ys (p - length (in_row written xs))
at-behind [] ys p h = let e = nothing-row in let q : p ≡ p - length (in_row written []) = omega arith in ap (piece_at ys) q
at-behind (x ∷ xs) ys p h =
    let r = head-row x xs in
    let l : length (written x) ≤ p = omega arith in
    let q : p - length (written x) - length (in_row written xs) ≡ p - length (in_row written (x ∷ xs)) = omega arith in
    at-later x (xs ++ ys) p l ∙ at-behind xs ys (p - length (written x)) (omega arith) ∙ ap (piece_at ys) q

-- ---- one more piece

module _ (xs : List Piece) (x : Piece) (target : ℕ) where
  last-at : length (in_row written xs) ≤ target → target < length (in_row written xs) + length (written x)
      → piece_at (xs ++ (x ∷ [])) target ≡ x
  last-at h k = at-behind xs (x ∷ []) target h ∙ at_first x [] (target - length (in_row written xs)) (omega arith)

  none-at : length (in_row written xs) + length (written x) ≤ target → piece_at (xs ++ (x ∷ [])) target ≡ piece_at xs target
  none-at k =
      let e : length (in_row written (xs ++ (x ∷ []))) ≡ length (in_row written xs) + length (written x) = row-length written xs x in
      at-past (xs ++ (x ∷ [])) target (omega arith) ∙ sym (at-past xs target (omega arith))

-- how many bytes are written for a piece
abbrev pub size_of : Bool → ℕ → ℕ
size_of fits n = if fits then n else 3

abbrev pub after_of : Bool → Bytes → ℕ → Bytes
after_of fits m from = if fits then m else sets m from (0 ∷ 0 ∷ 0 ∷ [])

two-parts : (i j : ℕ) (m x y : Bytes) → take i m ≡ x → take j (drop i m) ≡ y → take (i + j) m ≡ x ++ y
two-parts i j m x y h k = take-add i j m ∙ ap (λ z. z ++ take j (drop i m)) h ∙ ap (λ z. x ++ z) k

front-sets : (m : Bytes) (i : ℕ) (x v : Bytes) → i + length v ≤ length m → take i m ≡ x → take (length x + length v) (sets m i v) ≡ x ++ v
front-sets m i x v h e =
    ap (take (length x + length v)) (sets-eq v m i h ∙ ap (λ k. k ++ v ++ drop (i + length v) m) e)
    ∙ take_at (x ++ v) (drop (i + length v) m) (length x + length v) (length-append x v)

-- a sum that has room, counted up to a bound past it
before-too : (b n : ℕ) {a l : ℕ} → a ≡ min (b + n) 65536 → a ≤ l → l < 65536 → b ≤ l
before-too b n e h k = omega arith

written_is : (x : Piece) (f : Bool) → x.fits ≡ f → written x ≡ (if f then x.whole else 0 ∷ 0 ∷ 0 ∷ [])
unfolding written
written_is x f e = rw e

module _ (xs : List Piece) (x : Piece) (m : Bytes) (target : ℕ) (w : Written) (h : SoFar xs m target w) (small : length m < 65536) where
  -- the bytes
  laid : (f : Bool) → x.fits ≡ f → w.whole ≤ length m → Stands m w.end x.whole f
      → length (in_row written xs) + length (written x) ≤ length m
      → take (length (in_row written xs) + length (written x)) (after_of f m w.end) ≡ in_row written xs ++ written x
  laid true e hw st l =
      let q : written x ≡ x.whole = written_is x true e in
      let r : length (written x) ≡ length x.whole = ap length q in
      let i = h.end_is in
      let j : w.end ≡ length (in_row written xs) = omega arith in
      let a : take (length (in_row written xs)) m ≡ in_row written xs = h.stands (omega arith) hw in
      let b : take (length x.whole) (drop w.end m) ≡ x.whole = st tt (omega arith) in
      let d : take (length (written x)) (drop (length (in_row written xs)) m) ≡ written x =
      ap (λ n. take n (drop (length (in_row written xs)) m)) r ∙ ap (λ n. take (length x.whole) (drop n m)) (sym j) ∙ b ∙ sym q in
      two-parts (length (in_row written xs)) (length (written x)) m (in_row written xs) (written x) a d
  laid false e hw st l =
      let q : written x ≡ 0 ∷ 0 ∷ 0 ∷ [] = written_is x false e in
      let r : length (written x) ≡ 3 = ap length q in
      let i = h.end_is in
      let j : w.end ≡ length (in_row written xs) = omega arith in
      let a : take (length (in_row written xs)) m ≡ in_row written xs = h.stands (omega arith) hw in
      let n : w.end + 3 ≤ length m = omega arith in
      let y : take w.end m ≡ in_row written xs = ap (λ k. take k m) j ∙ a in
      subst (λ (v : Bytes). take (length (in_row written xs) + length v) (sets m w.end (0 ∷ 0 ∷ 0 ∷ [])) ≡ in_row written xs ++ v) (sym q)
      (front-sets m w.end (in_row written xs) (0 ∷ 0 ∷ 0 ∷ []) n y)

  same-room : (f : Bool) → length (after_of f m w.end) ≡ length m
  same-room true = refl
  same-room false = length-sets m w.end (0 ∷ 0 ∷ 0 ∷ [])

  put-size : (f : Bool) (n : ℕ) → x.fits ≡ f → n ≡ min (length x.whole) 65536 → min (size_of f n) 65536 ≡ min (length (written x)) 65536
  put-size true n e l = let r : length (written x) ≡ length x.whole = ap length (written_is x true e) in omega arith
  put-size false n e l = let r : length (written x) ≡ 3 = ap length (written_is x false e) in omega arith

  -- which piece is at the target
  pub record Aims (st : ℕ) (b : Bool) : Type 0 where
    pub start-goes : length (in_row written xs) + length (written x) ≤ length m → st ≡ (piece_at (xs ++ (x ∷ [])) target).start
    pub fits-goes : length (in_row written xs) + length (written x) ≤ length m → b ≡ (piece_at (xs ++ (x ∷ [])) target).fits

  pub more : {a : Bytes} {n k to whole : ℕ} {o : Option (ℕ × Bool)} {f : Bool} → x.fits ≡ f → n ≡ min (length x.whole) 65536
      → (w.whole ≤ length m → Stands m w.end x.whole f)
      → k ≡ size_of f n → a ≡ after_of f m w.end → to ≡ min (w.end + k) 65536 → whole ≡ min (w.whole + n) 65536
      → Aims (at_target o).0 (at_target o).1 → SoFar (xs ++ (x ∷ [])) a target (written_of to whole o)
  more {a} {n} {k} {to} {whole} {o} {f} e ln sd ke ae te we g =
      let l : length (in_row written (xs ++ (x ∷ []))) ≡ length (in_row written xs) + length (written x) = row-length written xs x in
      let lw : length (in_row (λ (y : Piece). y.whole) (xs ++ (x ∷ []))) ≡ length
      (in_row (λ (y : Piece). y.whole) xs) + length x.whole = row-length (λ (y : Piece). y.whole) xs x in
      let i = h.end_is in
      let j = h.whole_is in
      let s = put-size f n e ln in
      let room : length a ≡ length m = ap length ae ∙ same-room f in
      let ks : min k 65536 ≡ min (length (written x)) 65536 = ap (λ z. min z 65536) ke ∙ s in
      record {
        whole_is = omega arith;
        end_is = omega arith;
        stands = λ r v.
            let hw : w.whole ≤ length m = before-too w.whole n we (subst (λ z. whole ≤ z) room v) small in
            let u : length (in_row written xs) + length (written x) ≤ length m = omega arith in
            ap (λ z. take z a) l ∙ ap (take (length (in_row written xs) + length (written x))) ae ∙ laid f e hw (sd hw) u
            ∙ sym (row_more written xs x);
        start_is = λ r. g.start-goes (omega arith);
        fits_is = λ r. g.fits-goes (omega arith);
      }

  -- the end, where there is room
  ends_at : {n k to : ℕ} {f : Bool} → x.fits ≡ f → n ≡ min (length x.whole) 65536 → k ≡ size_of f n → to ≡ min (w.end + k) 65536
      → length (in_row written xs) + length (written x) ≤ length m → to ≡ length (in_row written xs) + length (written x)
  ends_at {n} {k} {to} {f} e ln ke te r =
      let i = h.end_is in
      let s = put-size f n e ln in
      let ks : min k 65536 ≡ min (length (written x)) 65536 = ap (λ z. min z 65536) ke ∙ s in
      omega arith

  module _ {n k to start : ℕ} {f : Bool} (e : x.fits ≡ f) (es : x.start ≡ start) (ln : n ≡ min (length x.whole) 65536)
      (ke : k ≡ size_of f n) (te : to ≡ min (w.end + k) 65536) where
    pub aims-here : w.end ≤ target → target < to → Aims start f
    aims-here u v =
        let i = h.end_is in
        let at : length (in_row written xs) + length (written x) ≤ length m → piece_at (xs ++ (x ∷ [])) target ≡ x =
        λ r. let y = ends_at e ln ke te r in last-at xs x target (omega arith) (omega arith) in
        record {
          start-goes = λ r. sym es ∙ ap (λ (p : Piece). p.start) (sym (at r));
          fits-goes = λ r. sym e ∙ ap (λ (p : Piece). p.fits) (sym (at r));
        }

    kept-aims : (length (in_row written xs) + length (written x) ≤ length m → piece_at (xs ++ (x ∷ [])) target ≡ piece_at xs target)
        → Aims (at_target w.at_target).0 (at_target w.at_target).1
    kept-aims at = record {
      start-goes = λ r. h.start_is (omega arith) ∙ ap (λ (p : Piece). p.start) (sym (at r));
      fits-goes = λ r. h.fits_is (omega arith) ∙ ap (λ (p : Piece). p.fits) (sym (at r));
    }

    pub aims-past : to ≤ target → Aims (at_target w.at_target).0 (at_target w.at_target).1
    aims-past u = kept-aims (λ r. let y = ends_at e ln ke te r in none-at xs x target (omega arith))

    pub aims-before : target < w.end → Aims (at_target w.at_target).0 (at_target w.at_target).1
    aims-before u = kept-aims (λ r. let i = h.end_is in at_before xs (x ∷ []) target (omega arith))

    -- elsewhere the piece at the target is the one that it was
    pub aims-kept : (w.end ≤ target → target < to → ⊥) → Aims (at_target w.at_target).0 (at_target w.at_target).1
    aims-kept n = by (ltb target w.end) (ltb target to) refl refl
      where
        by : (a b : Bool) → ltb target w.end ≡ a → ltb target to ≡ b → Aims (at_target w.at_target).0 (at_target w.at_target).1
        by true b i j = aims-before (ltb-true target w.end i)
        by false true i j = absurd (n (ltb-false target w.end i) (ltb-true target to j))
        by false false i j = aims-past (ltb-false target to j)
