-- What the look in a file of bytes says of the file.
use mathlib.Core.Path.{◌≡◌, refl, sym, ap, subst, ◌∙◌}
use mathlib.Core.List.{List, [], ◌∷◌, ◌++◌, append_assoc, append-nil}
use Prim.Native.Nat.{ℕ, zero, suc, ◌+◌, ◌≤◌, ◌<◌}
use native.Mathlib.Omega.{arith}
use lib.Dec.{T, leb, eqb, leb→le, nleb→lt, eqb→eq, eqb_refl, T_not}
use lib.ListN.{length, take, drop, length-append, drop_of_length-le}
use lib.Seq.{drop-cons}
use Rattle.rules.specs.Base.{nil}
use Rattle.rules.specs.Refusal.{Refusal}
use Rattle.rules.specs.Format.{Bytes, AreBytes, Got, bad, got, byte}
use Rattle.rules.proofs.Base.{if-ind, each_snoc}
use Rattle.shelf.specs.Pairs.{pair, Pair, read_pair, Look, hit, miss, stop, on_pair, look_pairs, look_in}
use Rattle.shelf.specs.Claims.{Entry, pairs, Lack, Without, First, Stops}
use Rattle.shelf.proofs.Look.{PairSays, pair-says}
use Rattle.shelf.proofs.Written.{pair-length, sheet-length, read-written}
use Rattle.rules.proofs.IfAt.{when-got}

-- ---- one file: what the look says of it

-- the sheet that is meant
abbrev pub sheet_at : Bytes → ℕ → ℕ → Bytes
sheet_at f p n = take n (drop p f)

pub record IsHit (name : ℕ) (f : Bytes) (p n : ℕ) : Type 0 where
  pub first : First name f p (sheet_at f p n)
  pub size : length (sheet_at f p n) ≡ n

abbrev pub Says : ℕ → Bytes → Look → Type 0
Says name f (hit p n) = IsHit name f p n
Says name f miss = Without name f
Says name f (stop r p) = Stops name f r p

pairs-snoc : (es : List Entry) (e : Entry) → pairs (es ++ e ∷ []) ≡ pairs es ++ pair e.name e.sheet
unfolding pairs
pairs-snoc [] e = append-nil (pair e.name e.sheet)
pairs-snoc (d ∷ es) e = ap (λ (r : Bytes). pair d.name d.sheet ++ r) (pairs-snoc es e) ∙ sym (append_assoc (pair d.name d.sheet) (pairs es) (pair e.name e.sheet))

module _ (name : ℕ) (f : Bytes) (bytes : AreBytes f) where
  -- pairs of other names up to a place
  record Passed (at : ℕ) : Type 0 where
    pub before : List Entry
    pub is_written : f ≡ pairs before ++ drop at f
    pub lack : Lack name before
    pub stands : length (pairs before) ≡ at

  over : (at : ℕ) → Passed at → length f ≤ at → Without name f
  over at p h = record {
    entries = p.before;
    is_whole = p.is_written ∙ ap (λ (r : Bytes). pairs p.before ++ r) (drop_of_length-le f h) ∙ append-nil (pairs p.before);
    lack = p.lack;
  }

  stopped : (at : ℕ) (r : Refusal) (q : ℕ) → Passed at → at < length f → read_pair f at ≡ bad r q → Stops name f r q
  stopped at r q p h e = record {
    before = p.before;
    next = byte f at;
    behind = drop (suc at) f;
    is_written = p.is_written ∙ ap (λ (r : Bytes). pairs p.before ++ r) (drop-cons f at 0 h);
    lack = p.lack;
    unread = ap (read_pair f) p.stands ∙ e;
  }

  module _ (at : ℕ) (p : Passed at) (x : Pair) (q : ℕ) (says : PairSays f at x q) where
    abbrev sheet : Bytes
    sheet = sheet_at f (at + 7) x.size

    with_pair : f ≡ (pairs p.before ++ pair x.name sheet) ++ drop q f
    with_pair = p.is_written ∙ ap (λ (r : Bytes). pairs p.before ++ r) (read-written f at x q bytes says)
        ∙ sym (append_assoc (pairs p.before) (pair x.name sheet) (drop q f))

    size_is : length sheet ≡ x.size
    size_is = sheet-length f at x q bytes says

    hit-here : x.name ≡ name → IsHit name f (at + 7) x.size
    hit-here e = record {
      first = record {
        before = p.before;
        behind = drop q f;
        is_written = with_pair ∙ ap (λ (n : ℕ). (pairs p.before ++ pair n sheet) ++ drop q f) e;
        lack = p.lack;
        starts = ap (λ (n : ℕ). n + 7) (sym p.stands);
      };
      size = size_is;
    }

    is-hit : x.name ≡ name → IsHit name f x.place x.size
    is-hit e = subst (λ (z : ℕ). IsHit name f z x.size) (sym says.place) (hit-here e)

    abbrev entry : Entry
    entry = record { name = x.name; sheet = sheet }

    is-past : (x.name ≡ name → ⊥) → Passed q
    is-past n = record {
      before = p.before ++ entry ∷ [];
      is_written = with_pair ∙ ap (λ (r : Bytes). r ++ drop q f) (sym (pairs-snoc p.before entry));
      lack = each_snoc p.before entry p.lack n;
      stands = (let a = ap length (pairs-snoc p.before entry) ∙ length-append (pairs p.before) (pair x.name sheet) in
          let b = pair-length x.name sheet in let c = size_is in let d = p.stands in let e = says.sheet.ends in omega arith);
    }

  on-says : (at : ℕ) (p : Passed at) (h : at < length f) (more : ℕ → Look) → ((q : ℕ) → at + 7 ≤ q → Passed q → Says name f (more q))
      → (g : Got Pair) → read_pair f at ≡ g → Says name f (on_pair name g more)
  unfolding on_pair
  on-says at p h more k (bad r q) e = stopped at r q p h e
  on-says at p h more k (got x q) e =
      let says = when-got (PairSays f at) (read_pair f at) (pair-says f at) x q e in
      if-ind (eqb x.name name) (hit x.place x.size) (more q) (Says name f)
      (λ t. is-hit at p x q says (eqb→eq x.name name t))
      (λ t. k q (let d = says.sheet.ends in omega arith) (is-past at p x q says (λ i. T_not (eqb x.name name) t (subst (λ (z : ℕ). T (eqb x.name z)) i (eqb_refl x.name)))))

  pairs-say : (k at : ℕ) → length f ≤ at + k → Passed at → Says name f (look_pairs k name f at)
  unfolding look_pairs
  pairs-say zero at h p = over at p (omega arith)
  pairs-say (suc k) at h p =
      if-ind (leb (length f) at) miss _ (Says name f) (λ t. over at p (leb→le (length f) at t))
      (λ t. on-says at p (nleb→lt (length f) at t) (λ q. look_pairs k name f q) (λ q l. pairs-say k q (omega arith)) (read_pair f at) refl)

  pub look-says : Says name f (look_in name f)
  unfolding look_in pairs
  look-says = pairs-say (length f) 0 (omega arith) (record { before = []; is_written = refl; lack = nil; stands = refl })
