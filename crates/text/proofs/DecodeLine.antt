-- Fields tell their lines: where the fields of a text's lines are those of other lines, the lines are the same.
use Rattle.std.specs.Prelude.{if◌then◌else◌}
use mathlib.Core.Path.{◌≡◌, refl, sym, ap, ◌∙◌}
use mathlib.Core.Bool.{◌&&◌}
use mathlib.Core.Option.{Option, none, some}
use mathlib.Core.List.{[], ◌∷◌, ◌++◌}
use Prim.Native.Nat.{ℕ, ◌+◌, ◌≤◌, min}
use native.Mathlib.Omega.{arith}
use lib.Dec.{T, eqb}
use lib.IntN.{ℤ}
use lib.ListN.{length, take, drop}
use lib.Seq.{take-append_seam, drop-append_seam}
use Rattle.rules.specs.Interval.{Interval, interval}
use Rattle.rules.specs.Program.{Action}
use Rattle.rules.specs.Format.{Bytes, twos_complement}
use Rattle.rules.specs.Encoding.{field, encode_value, encode_body}
use Rattle.text.specs.Lines.{Line, locks_line, var_line, thread_line, reg_line, statement_line}
use Rattle.text.specs.Convert.{fits_two, fits_signed, range_fits, action_fits, line_fits, field_of}
use Rattle.rules.proofs.Base.{and_left, and_right}
use Rattle.text.proofs.Decode.{low-two, low-four, two_back, value-back, Back, nothing, back, then-back, value_of, action-back, depth, action-tells}

-- ---- a field from the bytes that begin with it

pub data Cut : Type 0 where
  no_field : Cut
  cut : ℕ → Bytes → Bytes → Cut

unfoldable pub cut_field : Bytes → Cut
cut_field [] = no_field
cut_field (t ∷ []) = no_field
cut_field (t ∷ a ∷ []) = no_field
cut_field (t ∷ a ∷ b ∷ s) = cut t (take (low-two a b) s) (drop (low-two a b) s)

pub cut-tells : (t : ℕ) (body r : Bytes) → cut_field (field t body ++ r) ≡ cut t body r
unfolding cut_field
cut-tells t body r = rw (two_back (length body), take-append_seam body r, drop-append_seam body r)

-- ---- a line from its field

unfoldable value-from : Bytes → Back ℤ
value-from [] = nothing
value-from (a ∷ []) = nothing
value-from (a ∷ b ∷ []) = nothing
value-from (a ∷ b ∷ c ∷ []) = nothing
value-from (a ∷ b ∷ c ∷ d ∷ r) = back (twos_complement (low-four a b c d)) r

unfoldable number-from : Bytes → Back ℕ
number-from [] = nothing
number-from (a ∷ []) = nothing
number-from (a ∷ b ∷ r) = back (low-two a b) r

unfoldable range-from : (Interval → Line) → Bytes → Option Line
range-from f s = value_of (λ i. f i) (then-back (value-from s) (λ a t. then-back (value-from t) (λ b u. back (interval a b) u)))

unfoldable locks-from : Bytes → Option Line
locks-from [] = none
locks-from (n ∷ r) = some (locks_line n)

unfoldable with-times : ℕ → ℕ → Option Action → Option Line
with-times a b none = none
with-times a b (some x) = some (statement_line a b x)

unfoldable coded : ℕ → ℕ → ℕ → Bytes → Option Line
coded d a b [] = none
coded d a b (k ∷ s) = with-times a b (action-back d k s)

unfoldable after-back : Back ℕ → (ℕ → Bytes → Option Line) → Option Line
after-back nothing f = none
after-back (back a r) f = f a r

unfoldable statement-from : ℕ → Bytes → Option Line
statement-from d s = after-back (number-from s) (λ a t. after-back (number-from t) (λ b u. coded d a b u))

unfoldable line-back : ℕ → ℕ → Bytes → Option Line
line-back d t s =
    if eqb t 3 then locks-from s
    else if eqb t 2 then range-from var_line s
    else if eqb t 4 then some thread_line
    else if eqb t 5 then range-from reg_line s
    else statement-from d s

abbrev pub tag_of : Line → ℕ
tag_of (locks_line n) = 3
tag_of (var_line i) = 2
tag_of thread_line = 4
tag_of (reg_line i) = 5
tag_of (statement_line a b x) = 6

abbrev body_of : ℕ → Line → Bytes
body_of n (locks_line k) = k ∷ []
body_of n (var_line i) = encode_value i.low ++ encode_value i.high
body_of n thread_line = min n 255 ∷ []
body_of n (reg_line i) = encode_value i.low ++ encode_value i.high
body_of n (statement_line a b x) = encode_body a b x

abbrev depth_of : Line → ℕ
depth_of (locks_line n) = 0
depth_of (var_line i) = 0
depth_of thread_line = 0
depth_of (reg_line i) = 0
depth_of (statement_line a b x) = depth x

pub field_is : (n : ℕ) (x : Line) → field_of n x ≡ field (tag_of x) (body_of n x)
unfolding field_of
field_is n (locks_line k) = refl
field_is n (var_line i) = refl
field_is n thread_line = refl
field_is n (reg_line i) = refl
field_is n (statement_line a b x) = refl

range-tells : (f : Interval → Line) (i : Interval) → T (range_fits i) → range-from f (encode_value i.low ++ encode_value i.high) ≡ some (f i)
unfolding range-from value-from then-back value_of range_fits
range-tells f i h =
    rw (value-back i.low (and_left (fits_signed i.low) (fits_signed i.high) h), value-back i.high (and_right (fits_signed i.low) (fits_signed i.high) h))

line-tells : (d n : ℕ) (x : Line) → depth_of x ≤ d → T (line_fits x) → line-back d (tag_of x) (body_of n x) ≡ some x
unfolding line-back locks-from statement-from after-back number-from coded with-times line_fits
line-tells d n (locks_line k) l h = refl
line-tells d n (var_line i) l h = range-tells var_line i h
line-tells d n thread_line l h = refl
line-tells d n (reg_line i) l h = range-tells reg_line i h
line-tells d n (statement_line a b x) l h = rw (two_back a, two_back b, action-tells d x l (and_right (fits_two a && fits_two b) (action_fits x) h))

-- ---- line by line

pub tag-positive : (x : Line) → 1 ≤ tag_of x
tag-positive (locks_line n) = omega arith
tag-positive (var_line i) = omega arith
tag-positive thread_line = omega arith
tag-positive (reg_line i) = omega arith
tag-positive (statement_line a b x) = omega arith

pub record SameLine (x k : Line) (r u : Bytes) : Type 0 where
  pub line : x ≡ k
  pub rest : r ≡ u

pub same-field : (n m : ℕ) (x k : Line) (r u : Bytes) → T (line_fits x) → T (line_fits k) → field_of n x ++ r ≡ field_of m k ++ u → SameLine x k r u
same-field n m x k r u f h q =
    let d = depth_of x + depth_of k in
    let e : cut (tag_of x) (body_of n x) r ≡ cut (tag_of k) (body_of m k) u =
    sym (cut-tells (tag_of x) (body_of n x) r) ∙ ap cut_field (ap (λ s. s ++ r) (sym (field_is n x)) ∙ q ∙ ap (λ s. s ++ u) (field_is m k)) ∙ cut-tells (tag_of k) (body_of m k) u in
    let tags : tag_of x ≡ tag_of k = cc in
    let bodies : body_of n x ≡ body_of m k = cc in
    let rests : r ≡ u = cc in
    let lines : some x ≡ some k =
    sym (line-tells d n x (omega arith) f) ∙ ap (λ t. line-back d t (body_of n x)) tags ∙ ap (line-back d (tag_of k)) bodies ∙ line-tells d m k (omega arith) h in
    record { line = cc; rest = rests }
