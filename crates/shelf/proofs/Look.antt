-- A pair that is read, and the look as a loop that stands at a place.
use Rattle.std.specs.Prelude.{if◌then◌else◌}
use mathlib.Core.Path.{◌≡◌, refl, sym, ap, ◌∙◌, subst}
use mathlib.Core.Bool.{true}
use Prim.Native.Nat.{ℕ, zero, suc, ◌+◌, ◌≤◌, ◌<◌}
use native.Mathlib.Decide.{dec_le}
use native.Mathlib.Omega.{arith}
use lib.Dec.{leb, eqb, leb→le, nleb→lt, eqb→eq}
use lib.ListN.{length}
use Rattle.rules.specs.Refusal.{short, out_of_turn}
use Rattle.rules.specs.Format.{Bytes, Got, bad, got, byte, num16, has_head, has_body, due}
use Rattle.rules.proofs.Base.{if-ind}
use Rattle.rules.proofs.IfAt.{IfAt, need-at, then_at, map_at, weaker-at}
use Rattle.rules.proofs.FieldAt.{field-at}
use Rattle.shelf.specs.Pairs.{read_name, pass_sheet, Pair, read_pair, Look, hit, miss, stop, on_pair, look_pairs, look_in}

-- ---- a pair

module _ (f : Bytes) (at : ℕ) where
  pub record NameSays (n q : ℕ) : Type 0 where
    pub tag : byte f at ≡ 48
    pub one : num16 f (at + 1) ≡ 1
    pub is : n ≡ byte f (at + 3)
    pub ends : q ≡ at + 4
    pub fits : at + 4 ≤ length f

  pub record SheetSays (n q : ℕ) : Type 0 where
    pub tag : byte f at ≡ 49
    pub is : n ≡ num16 f (at + 1)
    pub ends : q ≡ at + 3 + n
    pub fits : at + 3 + n ≤ length f

  pub name-says : IfAt NameSays (read_name f at)
  unfolding read_name
  name-says =
      field-at NameSays 48 1 f at true (byte f (at + 3)) (λ h _.
      let l = h.fits in record { tag = h.tag_is; one = h.size_is; is = refl; ends = omega arith; fits = omega arith })

  pub sheet-says : IfAt SheetSays (pass_sheet f at)
  unfolding pass_sheet due has_body
  sheet-says =
      need-at SheetSays (has_head f at) short at _ (λ _. need-at SheetSays (eqb (byte f at) 49) out_of_turn at _ (λ t.
      need-at SheetSays (leb (at + 3 + num16 f (at + 1)) (length f)) short at _ (λ l.
      record { tag = eqb→eq (byte f at) 49 t; is = refl; ends = refl; fits = leb→le (at + 3 + num16 f (at + 1)) (length f) l })))

-- a name and a sheet right behind it
pub record PairSays (f : Bytes) (at : ℕ) (x : Pair) (q : ℕ) : Type 0 where
  pub name : NameSays f at x.name (at + 4)
  pub sheet : SheetSays f (at + 4) x.size q
  pub place : x.place ≡ at + 7

pub pair-says : (f : Bytes) (at : ℕ) → IfAt (PairSays f at) (read_pair f at)
unfolding read_pair
pair-says f at = then_at (NameSays f at) (PairSays f at) (read_name f at) _ (name-says f at) (λ n p h.
    map_at (SheetSays f p) (PairSays f at) _ (pass_sheet f p) (sheet-says f p) (λ m q k. together n p h m q k))
  where
    together : (n p : ℕ) → NameSays f at n p → (m q : ℕ) → SheetSays f p m q → PairSays f at (record { name = n; place = p + 3; size = m }) q
    together n p h m q k =
        let e = h.ends in
        record { name = subst (NameSays f at n) e h; sheet = subst (λ (z : ℕ). SheetSays f z m q) e k; place = omega arith }

-- ---- the look

-- what a pair comes to, if it has the name
abbrev pub OfPair : (Look → Type 0) → Got Pair → Type 0
OfPair Q (bad r p) = Q (stop r p)
OfPair Q (got x q) = Q (hit x.place x.size)

module _ (f : Bytes) (name : ℕ) where
  -- how it goes on matters behind a pair that is read
  on_same : (g : Got Pair) (more other : ℕ → Look) → IfAt (λ x q. more q ≡ other q) g → on_pair name g more ≡ on_pair name g other
  unfolding on_pair
  on_same (bad r p) more other h = refl
  on_same (got x q) more other h = ap (λ (z : Look). if eqb x.name name then hit x.place x.size else z) h

  turn-same : (at : ℕ) (more other : ℕ → Look) → ((q : ℕ) → at + 7 ≤ q → more q ≡ other q) → on_pair name (read_pair f at) more ≡ on_pair name (read_pair f at) other
  turn-same at more other h = on_same (read_pair f at) more other (weaker-at (PairSays f at) (λ x q. more q ≡ other q) (read_pair f at) (pair-says f at)
      (λ x q b. h q (let e = b.sheet.ends in omega arith)))

  pairs_end : (k at : ℕ) → length f ≤ at → look_pairs k name f at ≡ miss
  unfolding look_pairs
  pairs_end zero at h = refl
  pairs_end (suc k) at h = if-ind (leb (length f) at) miss _ (λ z. z ≡ miss) (λ _. refl) (λ t. absurd (let l = nleb→lt (length f) at t in omega arith))

  pairs-on : (k at : ℕ) → at < length f → look_pairs (suc k) name f at ≡ on_pair name (read_pair f at) (λ q. look_pairs k name f q)
  unfolding look_pairs
  pairs-on k at h =
      let z = on_pair name (read_pair f at) (λ q. look_pairs k name f q) in
      if-ind (leb (length f) at) miss z (λ u. u ≡ z) (λ t. absurd (let l = leb→le (length f) at t in omega arith)) (λ _. refl)

  -- any k that is enough for the bytes that are left gives the same
  enough : (k m at : ℕ) → length f ≤ at + k → length f ≤ at + m → look_pairs k name f at ≡ look_pairs m name f at
  enough zero m at h l = pairs_end zero at (omega arith) ∙ sym (pairs_end m at (omega arith))
  enough (suc k) zero at h l = pairs_end (suc k) at (omega arith) ∙ sym (pairs_end zero at (omega arith))
  enough (suc k) (suc m) at h l = elim (dec_le (length f) at) [
    | yes d ↦ pairs_end (suc k) at d ∙ sym (pairs_end (suc m) at d)
    | no d ↦
        let u : at < length f = omega arith in
        pairs-on k at u ∙ turn-same at (λ q. look_pairs k name f q) (λ q. look_pairs m name f q) (λ q b. enough k m q (omega arith) (omega arith)) ∙ sym (pairs-on m at u)
  ]

  -- the look from a place on: its end, and one turn
  abbrev pub look_from : ℕ → Look
  look_from at = look_pairs (length f) name f at

  pub look-end : (at : ℕ) → length f ≤ at → look_from at ≡ miss
  look-end at h = pairs_end (length f) at h

  pub look-on : (at : ℕ) → at < length f → look_from at ≡ on_pair name (read_pair f at) (λ q. look_from q)
  look-on at h = enough (length f) (suc (length f)) at (omega arith) (omega arith) ∙ pairs-on (length f) at h

  -- ---- what holds of every look: of a miss, and of what each pair comes to

  on-each : (Q : Look → Type 0) (g : Got Pair) (more : ℕ → Look) → OfPair Q g → ((q : ℕ) → Q (more q)) → Q (on_pair name g more)
  unfolding on_pair
  on-each Q (bad r p) more h k = h
  on-each Q (got x q) more h k = if-ind (eqb x.name name) (hit x.place x.size) (more q) Q (λ _. h) (λ _. k q)

  pairs-each : (Q : Look → Type 0) → Q miss → ((at : ℕ) → OfPair Q (read_pair f at)) → (k at : ℕ) → Q (look_pairs k name f at)
  unfolding look_pairs
  pairs-each Q m h zero at = m
  pairs-each Q m h (suc k) at =
      if-ind (leb (length f) at) miss _ Q (λ _. m) (λ _. on-each Q (read_pair f at) (λ q. look_pairs k name f q) (h at) (λ q. pairs-each Q m h k q))

  pub look-each : (Q : Look → Type 0) → Q miss → ((at : ℕ) → OfPair Q (read_pair f at)) → Q (look_in name f)
  unfolding look_in
  look-each Q m h = pairs-each Q m h (length f) 0

-- ---- what is found lies in the file

abbrev pub InFile : Bytes → Look → Type 0
InFile f (hit p n) = p + n ≤ length f
InFile f miss = Unit {0}
InFile f (stop r p) = Unit {0}

pair-in-file : (f : Bytes) (at : ℕ) (g : Got Pair) → IfAt (PairSays f at) g → OfPair (InFile f) g
pair-in-file f at (bad r p) h = tt
pair-in-file f at (got x q) h = let a = h.place in let b = h.sheet.fits in omega arith

pub look-in-file : (f : Bytes) (name : ℕ) → InFile f (look_in name f)
look-in-file f name = look-each f name (InFile f) tt (λ at. pair-in-file f at (read_pair f at) (pair-says f at))

-- what the search is given for `find_in`
pub ruleset file_laws = (look-in-file)
