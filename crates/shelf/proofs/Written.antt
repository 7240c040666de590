-- A file's bytes and its pairs: what is written reads as it was written, and what reads was so written.
use mathlib.Core.Path.{◌≡◌, refl, sym, ap, ◌∙◌}
use mathlib.Core.Bool.{true}
use mathlib.Core.List.{◌∷◌, ◌++◌}
use Prim.Native.Nat.{ℕ, suc, ◌+◌, ◌/◌, ◌%◌, ◌≤◌, ◌<◌}
use native.Mathlib.Omega.{arith}
use lib.ListN.{length, take, drop, length-append, length-drop, take-append-drop}
use lib.Seq.{drop-drop, length-take-le, get_or-append-add}
use lib.Dec.{le→leb}
use Rattle.rules.specs.Format.{Bytes, AreBytes, Got, got, and_then, map_got, byte, num16, has_head, has_body, due}
use Rattle.rules.proofs.Base.{each_at}
use Rattle.rules.proofs.IfAt.{need-yes, eq→eqb}
use Rattle.rules.proofs.FieldAt.{field-reads, one_at}
use Rattle.shelf.specs.Pairs.{pair, read_name, pass_sheet, Pair, read_pair}
use Rattle.shelf.proofs.Look.{NameSays, SheetSays, PairSays}

-- ---- what says so is read

module _ (f : Bytes) (at : ℕ) where
  name-reads : (n q : ℕ) → NameSays f at n q → read_name f at ≡ got n q
  unfolding read_name
  name-reads n q h =
      let l = h.fits in let d = h.ends in let e : at + 3 + 1 ≡ q = omega arith in
      field-reads 48 1 f at true (byte f (at + 3)) (record { tag_is = h.tag; size_is = h.one; fits = omega arith }) tt ∙ (λ i. got (sym h.is i) (e i))

  sheet-reads : (n q : ℕ) → SheetSays f at n q → pass_sheet f at ≡ got n q
  unfolding pass_sheet due has_head has_body
  sheet-reads n q h =
      let l = h.fits in let o = h.is in
      need-yes _ _ at _ (le→leb (at + 3) (length f) (omega arith)) ∙ need-yes _ _ at _ (eq→eqb (byte f at) 49 h.tag)
      ∙ need-yes _ _ at _ (le→leb (at + 3 + num16 f (at + 1)) (length f) (omega arith))
      ∙ (λ i. got (sym o i) ((ap (λ (m : ℕ). at + 3 + m) (sym o) ∙ sym h.ends) i))

pub pair_reads : (f : Bytes) (at : ℕ) (n m : ℕ) → NameSays f at n (at + 4) → SheetSays f (at + 4) m (at + 7 + m)
    → read_pair f at ≡ got (record { name = n; place = at + 7; size = m }) (at + 7 + m)
unfolding read_pair and_then map_got
pair_reads f at n m h k =
    ap (λ (g : Got ℕ). and_then g (λ x p. map_got (λ z. record { name = x; place = p + 3; size = z }) (pass_sheet f p))) (name-reads f at n (at + 4) h)
    ∙ ap (map_got (λ z. record { name = n; place = at + 4 + 3; size = z })) (sheet-reads f (at + 4) m (at + 7 + m) k)
    ∙ (let e : at + 4 + 3 ≡ at + 7 = omega arith in λ i. got (record { name = n; place = e i; size = m }) (at + 7 + m))

-- ---- a written pair, behind any bytes and in front of any

pub pair-length : (n : ℕ) (sheet : Bytes) → length (pair n sheet) ≡ length sheet + 7
pair-length n sheet = let e : length (pair n sheet) ≡ suc (suc (suc (suc (suc (suc (suc (length sheet))))))) = refl in omega arith

pub length-around : (front : Bytes) (n : ℕ) (sheet rest : Bytes) → length (front ++ (pair n sheet ++ rest)) ≡ length front + (length sheet + 7 + length rest)
length-around front n sheet rest =
    omega (arith, length-append front (pair n sheet ++ rest), length-append (pair n sheet) rest, pair-length n sheet)

module _ (front : Bytes) (n : ℕ) (sheet rest : Bytes) where
  abbrev pub around : Bytes
  around = front ++ (pair n sheet ++ rest)

  byte-is : (k : ℕ) {p : ℕ} → p ≡ length front + k → byte around p ≡ byte (pair n sheet ++ rest) k
  byte-is k e = ap (byte around) e ∙ get_or-append-add front (pair n sheet ++ rest) k 0

  name-there : NameSays around (length front) n (length front + 4)
  name-there =
      let high : byte around (length front + 1) ≡ 0 = byte-is 1 refl in
      let low : byte around (length front + 1 + 1) ≡ 1 = byte-is 2 (omega arith) in
      let l = length-around front n sheet rest in
      record { tag = byte-is 0 (omega arith); one = omega arith; is = sym (byte-is 3 refl); ends = refl; fits = omega arith }

  sheet-there : SheetSays around (length front + 4) (length sheet) (length front + 7 + length sheet)
  sheet-there =
      let high : byte around (length front + 4 + 1) ≡ length sheet / 256 = byte-is 5 (omega arith) in
      let low : byte around (length front + 4 + 1 + 1) ≡ length sheet % 256 = byte-is 6 (omega arith) in
      let l = length-around front n sheet rest in
      record { tag = byte-is 4 refl; is = omega arith; ends = omega arith; fits = omega arith }

  pub written_reads : read_pair around (length front) ≡ got (record { name = n; place = length front + 7; size = length sheet }) (length front + 7 + length sheet)
  written_reads = pair_reads around (length front) n (length sheet) name-there sheet-there

-- ---- a pair that reads was so written

module _ (f : Bytes) (at : ℕ) where
  seven : at + 7 ≤ length f → drop at f ≡ byte f at ∷ byte f (at + 1) ∷ byte f (at + 2) ∷ byte f (at + 3) ∷ byte f (at + 4) ∷ byte f (at + 5) ∷ byte f (at + 6) ∷ drop (at + 7) f
  seven h =
      one_at f at (at + 1) refl (omega arith)
      ∙ ap (λ (r : Bytes). byte f at ∷ r)
      (one_at f (at + 1) (at + 2) (omega arith) (omega arith)
      ∙ ap (λ (r : Bytes). byte f (at + 1) ∷ r)
      (one_at f (at + 2) (at + 3) (omega arith) (omega arith)
      ∙ ap (λ (r : Bytes). byte f (at + 2) ∷ r)
      (one_at f (at + 3) (at + 4) (omega arith) (omega arith)
      ∙ ap (λ (r : Bytes). byte f (at + 3) ∷ r)
      (one_at f (at + 4) (at + 5) (omega arith) (omega arith)
      ∙ ap (λ (r : Bytes). byte f (at + 4) ∷ r)
      (one_at f (at + 5) (at + 6) (omega arith) (omega arith)
      ∙ ap (λ (r : Bytes). byte f (at + 5) ∷ r)
      (one_at f (at + 6) (at + 7) (omega arith) (omega arith)))))))

  module _ (x : Pair) (q : ℕ) (bytes : AreBytes f) (says : PairSays f at x q) where
    abbrev sheet : Bytes
    sheet = take x.size (drop (at + 7) f)

    pub sheet-length : length sheet ≡ x.size
    sheet-length = let a = length-drop (at + 7) f in let b = says.sheet.fits in length-take-le x.size (drop (at + 7) f) (omega arith)

    pub read-written : drop at f ≡ pair x.name sheet ++ drop q f
    read-written =
        let a = says.name.tag in let o = says.name.one in let n = says.name.is in let b = says.sheet.tag in
        let m = says.sheet.is in let e = says.sheet.ends in let l = says.sheet.fits in let k = sheet-length in
        let i : at + 1 + 1 ≡ at + 2 = omega arith in let j : at + 4 + 1 ≡ at + 5 = omega arith in let u : at + 4 + 1 + 1 ≡ at + 6 = omega arith in
        let high = ap (byte f) j in let low = ap (byte f) u in let low-one = ap (byte f) i in
        let small : byte f (at + 6) < 256 = each_at f 0 (omega arith) bytes (at + 6) in
        let c : byte f (at + 1) ≡ 0 = omega arith in
        let d : byte f (at + 2) ≡ 1 = omega arith in
        let g : byte f (at + 5) ≡ length sheet / 256 = omega arith in
        let h : byte f (at + 6) ≡ length sheet % 256 = omega arith in
        let end : at + 7 + x.size ≡ q = omega arith in
        seven (omega arith)
        ∙ (λ t. a t ∷ c t ∷ d t ∷ sym n t ∷ b t ∷ g t ∷ h t ∷ sym (take-append-drop x.size (drop (at + 7) f)) t)
        ∙ ap (λ (r : Bytes). pair x.name sheet ++ r) (drop-drop x.size (at + 7) f ∙ ap (λ (k : ℕ). drop k f) end)
