-- What the program gives: the text line by line, never longer than its buffer, told by the first 16,385 bytes of a sheet; and that what
-- it lends is enough.
use mathlib.Core.Path.{◌≡◌, refl, sym, ap, ◌∙◌, subst}
use mathlib.Core.List.{List, [], ◌∷◌, ◌++◌}
use Prim.Native.Nat.{ℕ, suc, ◌+◌, ◌*◌, ◌/◌, ◌^◌, ◌≤◌, ◌<◌}
use native.Mathlib.Decide.{dec_le}
use native.Mathlib.Omega.{arith}
use lib.ListN.{length, take, drop, get_or, length-take, drop_of_length-le}
use lib.Seq.{drop-cons}
use Rattle.rules.specs.Base.{nil, ◌&◌}
use Rattle.rules.specs.Constants.{longest_sheet}
use Rattle.rules.specs.Refusal.{too_long}
use Rattle.rules.specs.Program.{Program}
use Rattle.rules.specs.Format.{Bytes, Got, bad, got, read_fields}
use Rattle.rules.proofs.Longest.{told-by-front}
use Rattle.writing.specs.Out.{out_of, write, Writes, line_of}
use Rattle.std.specs.Simd.{first_chunks}
use Rattle.writing.proofs.Written.{then-writes, none_written, same_text, writes-length}
use Rattle.writing.proofs.Line.{line-ends}
use Rattle.mended.specs.Mend.{Mending, mended, refused_with, mend}
use Rattle.mended.specs.Claims.{MendClaims}
use Rattle.mended.proofs.Answer.{sheet-reads, answer-inside, list-long}
use Rattle.mended.proofs.Claims.{mend-claims}
use Rattle.mend.specs.declared.outputs.Mending as D
use Rattle.mend.specs.Shape.{four, mending_of}
use Rattle.mend_main.specs.Text.{lent_numbers, longest_text, answered, written, lines, four_of, said, EnoughLent, EnoughRead}

-- ---- lines

pub change-ends : (k p : ℕ) → k < 2 ^ 32 → p < 2 ^ 32 → (l m : Bytes) (a e : ℕ) → Writes (line_of (k ∷ p ∷ [])) l a m e → a + 22 ≤ length l → e ≤ a + 22
change-ends k p f g l m a e v h = let x = line-ends 9 (k ∷ p ∷ []) ((omega arith) & (omega arith) & nil) l m a e v (omega arith) in omega arith

-- ---- a line for each change: what is written so far, and that the rest belongs behind it

-- the list as pairs
abbrev pub pairs_in : List ℕ → List (List ℕ)
pairs_in ns = first_chunks 2 (length ns / 2) ns

unfoldable pub pair-lines : List (List ℕ) → Bytes
pair-lines [] = []
pair-lines (x ∷ xs) = line_of (get_or x 0 0 ∷ get_or x 1 0 ∷ []) ++ pair-lines xs

lines_are : (ns : List ℕ) → pair-lines (pairs_in ns) ≡ lines ns
unfolding lines pair-lines
lines_are [] = refl
lines_are (k ∷ []) = refl
lines_are (k ∷ p ∷ ns) =
    let half : length (k ∷ p ∷ ns) / 2 ≡ suc (length ns / 2) = omega arith in
    ap (λ (n : ℕ). pair-lines (first_chunks 2 n (k ∷ p ∷ ns))) half ∙ ap (λ (t : Bytes). line_of (k ∷ p ∷ []) ++ t) (lines_are ns)

abbrev pub Rest : List (List ℕ) → Bytes → ℕ → Bytes → ℕ → ℕ → Type 0
Rest ps l from m at i = (x : Bytes) (r : ℕ) → Writes (pair-lines (drop i ps)) m at x r → Writes (pair-lines ps) l from x r

module _ (ps : List (List ℕ)) (l : Bytes) (from : ℕ) where
  pub rest-next : (m n : Bytes) (a b i : ℕ) → i < length ps → Rest ps l from m a i → Writes (line_of (get_or (get_or ps i []) 0 0 ∷ get_or (get_or ps i []) 1 0 ∷ [])) m a n b
      → Rest ps l from n b (i + 1)
  unfolding pair-lines
  rest-next m n a b i h f w x r v =
      let e : suc i ≡ i + 1 = omega arith in
      let x₀ = get_or ps i [] in
      let here : drop i ps ≡ x₀ ∷ drop (i + 1) ps = drop-cons ps i [] h ∙ ap (λ (k : ℕ). x₀ ∷ drop k ps) e in
      f x r (subst (λ (t : List (List ℕ)). Writes (pair-lines t) m a x r) (sym here)
      (then-writes (line_of (get_or x₀ 0 0 ∷ get_or x₀ 1 0 ∷ [])) (pair-lines (drop (i + 1) ps)) m n x a b r w v))

  pub rest-none : (m : Bytes) (a i : ℕ) → length ps ≤ i → Rest ps l from m a i → Writes (pair-lines ps) l from m a
  unfolding pair-lines
  rest-none m a i h f = f m a (rw (drop_of_length-le ps h) (none_written m a))

pub lines-put : (ns : List ℕ) (ps : List (List ℕ)) → ps ≡ pairs_in ns → (l m : Bytes) (a r : ℕ) → Writes (pair-lines ps) l a m r → Writes (lines ns) l a m r
lines-put ns ps e l m a r w = same_text (pair-lines ps) (lines ns) l m a r (ap pair-lines e ∙ lines_are ns) w

-- ---- what is told of a sheet

module _ (s : Bytes) (a : Mending) (e : a ≡ answered s) where
  pub told-sheet : take a.written a.sheet ≡ written s
  unfolding written
  told-sheet = ap (λ (x : Mending). take x.written x.sheet) e

  pub told_text : (l m n : Bytes) (p q : ℕ) → Writes (line_of (four_of a)) l 0 m p → Writes (lines (take a.listed a.list)) m p n q → Writes (said s) l 0 n q
  unfolding said
  told_text l m n p q v w =
      then-writes (line_of (four_of a)) (lines (take a.listed a.list)) l m n 0 p q v w
      ∙ ap (λ (x : Mending). write (line_of (four_of x) ++ lines (take x.listed x.list)) (out_of l 0)) e

  pub told-inside : (a.written ≤ length a.sheet) × (a.listed ≤ length a.list)
  unfolding answered
  told-inside = subst (λ (x : Mending). (x.written ≤ length x.sheet) × (x.listed ≤ length x.list)) (sym e) (answer-inside s longest_sheet lent_numbers)

  -- the text fits: each line as the code bounds it
  pub said-inside : (l m n : Bytes) (p q : ℕ) → Writes (line_of (four_of a)) l 0 m p → Writes (lines (take a.listed a.list)) m p n q → longest_text ≤ length l
      → (84 ≤ length l → p ≤ 84) → (p + 11 * length (take a.listed a.list) ≤ length m → q ≤ p + 11 * length (take a.listed a.list)) → q ≤ length n
  unfolding answered
  said-inside l m n p q v w room f g =
      let short = f (omega arith) in
      let same = writes-length _ l m 0 p v in
      let whole = writes-length _ m n p q w in
      let few = length-take a.listed a.list in
      let most : length a.list ≡ lent_numbers = ap (λ (x : Mending). length x.list) e ∙ list-long s longest_sheet lent_numbers in
      let k : length (take a.listed a.list) ≤ lent_numbers = omega (arith, told-inside.1) in
      let end = g (omega arith) in
      omega arith

-- with the buffers that are lent, as the code has it
module _ (s : Bytes) {r : D.Mending} {sheet : Bytes} {list : List ℕ} {n k : ℕ} (is : mending_of r sheet list ≡ mend s n k) (f : n ≡ longest_sheet) (g : k ≡ lent_numbers) where
  answer-is : mending_of r sheet list ≡ answered s
  unfolding answered
  answer-is = is ∙ (λ i. mend s (f i) (g i))

  pub sheet-told : take r.written sheet ≡ written s
  sheet-told = told-sheet s (mending_of r sheet list) answer-is

  pub sheet-inside : r.written ≤ length sheet
  sheet-inside = (told-inside s (mending_of r sheet list) answer-is).0

  pub list-inside : r.listed ≤ length list
  list-inside = (told-inside s (mending_of r sheet list) answer-is).1

  pub text-told : (l m x : Bytes) (p q : ℕ) → Writes (line_of (four r.refusal r.place r.written r.listed)) l 0 m p → Writes (lines (take r.listed list)) m p x q → Writes (said s) l 0 x q
  text-told l m x p q v w = told_text s (mending_of r sheet list) answer-is l m x p q v w

  pub text-inside : (l m x : Bytes) (p q : ℕ) → Writes (line_of (four r.refusal r.place r.written r.listed)) l 0 m p → Writes (lines (take r.listed list)) m p x q → longest_text ≤ length l
      → (84 ≤ length l → p ≤ 84) → (p + 11 * length (take r.listed list) ≤ length m → q ≤ p + 11 * length (take r.listed list)) → q ≤ length x
  text-inside l m x p q v w room a b = said-inside s (mending_of r sheet list) answer-is l m x p q v w room a b

-- ---- the claims

answered-long : (s : Bytes) → longest_sheet < length s → answered s ≡ refused_with longest_sheet lent_numbers too_long 0
unfolding answered
answered-long s h = mend-claims.too_long_lem s longest_sheet lent_numbers h

pub enough-read : EnoughRead
unfolding written said
enough-read = record {
  written_same = told-by-front written longest_sheet _ (λ s h. ap (λ (a : Mending). take a.written a.sheet) (answered-long s h));
  said_same = told-by-front said longest_sheet _ (λ s h. ap (λ (a : Mending). line_of (four_of a) ++ lines (take a.listed a.list)) (answered-long s h));
}

pub enough-lent : EnoughLent
unfolding answered
enough-lent s n k a b = elim (dec_le (length s) longest_sheet) [
  | no h ↦ ap four_of (c.too_long_lem s n k (omega arith)) ∙ sym (ap four_of (c.too_long_lem s longest_sheet lent_numbers (omega arith)))
  | yes h ↦ read h (read_fields (mended s).bytes) refl
]
  where
    c : MendClaims
    c = mend-claims

    read : length s ≤ longest_sheet → (g : Got Program) → read_fields (mended s).bytes ≡ g → four_of (mend s n k) ≡ four_of (mend s longest_sheet lent_numbers)
    read h (bad r q) e = ap four_of (c.unread s n k r q h e) ∙ sym (ap four_of (c.unread s longest_sheet lent_numbers r q h e))
    read h (got g e) r = elim (dec_le (length (mended s).bytes) longest_sheet) [
      | no i ↦ ap four_of (c.mended_too_long s n k g e h r (omega arith)) ∙ sym (ap four_of (c.mended_too_long s longest_sheet lent_numbers g e h r (omega arith)))
      | yes i ↦
          let reads = sheet-reads (mended s).bytes g e i r in
          let few = c.numbers_at_most s in
          ap four_of (c.mends s n k g e h reads (omega arith) (omega arith)) ∙ sym (ap four_of (c.mends s longest_sheet lent_numbers g e h reads i (omega arith)))
    ]
