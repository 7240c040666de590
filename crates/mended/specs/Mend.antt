-- Mend what the card writer garbles (02, ticket 13): ends that stand the wrong way round are exchanged, and a thread that closes on
-- another statement gets its halt. The changes are made field by field, wherever a field can be told; whether it is the one that is
-- due is the reader's affair, which then reads the mended sheet, its places counted back to the original.
use Rattle.std.specs.Prelude.{Bool, true, false, ◌&&◌, ◌||◌, not, List, [], ◌∷◌, ◌++◌, ℕ, zero, suc, ◌+◌, ◌-◌, leb, ltb, eqb, length, drop, replicate, if◌then◌else◌}
use Rattle.std.proofs.Math.Option.{Option, none, some}
use Rattle.std.specs.Int.Signed.{lt_z}
use Rattle.std.proofs.Math.Seq.{slice}
use Rattle.rules.specs.Refusal.{Refusal, number, too_long, output_full}
use Rattle.rules.specs.Constants.{longest_sheet}
use Rattle.rules.specs.Format.{Bytes, Got, bad, got, and_then, need, byte, num16, num32, int32, has_head, has_body, read_fields}
use Rattle.rules.specs.Sheets.{halt}

-- "kind (1 exchanged, 2 halt added) and the original offset of the field"; "an added halt names the thread's last statement"
pub data Change : Type 0 where
  exchanged halt_added : ℕ → Change

-- a part of the mended sheet, and the changes in it, "in sheet order"
pub record Mended : Type 0 where
  pub bytes : Bytes
  pub changes : List Change

abbrev pub copied : Bytes → Mended
copied s = record { bytes = s; changes = [] }

-- a part and the one behind it
infixr 5 ◌then◌
abbrev pub ◌then◌ : Mended → Mended → Mended
a then b = record { bytes = a.bytes ++ b.bytes; changes = a.changes ++ b.changes }

-- ---- a field, wherever a whole one stands

unfoldable pub is_field : Bytes → ℕ → Bool
is_field s at = has_head s at && has_body s at

-- the place behind it
abbrev pub behind : Bytes → ℕ → ℕ
behind s at = at + 3 + num16 s (at + 1)

-- ---- "exchange ends where low is above high (label, ranges, times)"

-- "low is above high": of label and times unsigned, of ranges signed
unfoldable pub reversed : Bytes → ℕ → Bool
reversed s at =
    let tag = byte s at in
    let n = num16 s (at + 1) in
    if eqb tag 1 then eqb n 16 && ltb (num32 s (at + 15)) (num32 s (at + 11))
    else if eqb tag 2 || eqb tag 5 then eqb n 8 && lt_z (int32 s (at + 7)) (int32 s (at + 3))
    else if eqb tag 6 then leb 5 n && ltb (num16 s (at + 5)) (num16 s (at + 3))
    else false

-- where a field of a tag has its low end, and how many bytes each end has; the high end stands behind the low one
abbrev pub low_end : ℕ → ℕ
low_end tag = if eqb tag 1 then 11 else 3

abbrev pub end_size : ℕ → ℕ
end_size tag = if eqb tag 6 then 2 else 4

-- the bytes from p up to q, with the w bytes at a and the w behind them exchanged
unfoldable pub exchange : Bytes → ℕ → ℕ → ℕ → ℕ → Bytes
exchange s p q a w = slice p a s ++ (slice (a + w) (a + w + w) s ++ (slice a (a + w) s ++ slice (a + w + w) q s))

-- the field at a place, its ends exchanged
abbrev pub exchanged_field : Bytes → ℕ → Bytes
exchanged_field s at = exchange s at (behind s at) (at + low_end (byte s at)) (end_size (byte s at))

unfoldable pub mended_field : Bytes → ℕ → Mended
mended_field s at =
    if reversed s at then record { bytes = exchanged_field s at; changes = exchanged at ∷ [] }
    else copied (slice at (behind s at) s)

-- ---- "append halt (times 0, 0) to a thread that closes on another statement"

-- the field at a place is a statement other than halt
abbrev pub not_halt : Bytes → ℕ → Bool
not_halt s at = eqb (byte s at) 6 && (leb 5 (num16 s (at + 1)) && not (eqb (byte s (at + 7)) 0))

-- such a statement, which wants a halt behind it if its thread closes there
unfoldable pub open_after : Bytes → ℕ → Option ℕ
open_after s at = if not_halt s at then some at else none

-- "A thread closes when the tag of a full header is 4 [..] or no bytes remain."
unfoldable pub closes_at : Bytes → ℕ → Bool
closes_at s at = leb (length s) at || (has_head s at && eqb (byte s at) 4)

-- what is added at a place: the statement before it, where it wants a halt, is `last`
unfoldable pub added : Bool → Option ℕ → Mended
added false last = copied []
added true none = copied []
added true (some p) = record { bytes = halt; changes = halt_added p ∷ [] }

-- ---- the sheet, field by field

-- where no whole field stands, the rest is copied
unfoldable pub on_field : Bool → Bytes → (Unit {0} → Mended) → Mended
on_field false rest m = copied rest
on_field true rest m = m tt

-- from a place on; k is more than the number of fields that are left
unfoldable pub mend_fields : ℕ → Option ℕ → Bytes → ℕ → Mended
mend_fields zero last s at = copied (drop at s)
mend_fields (suc k) last s at =
    added (closes_at s at) last then
    on_field (is_field s at) (drop at s) (λ _. mended_field s at then mend_fields k (open_after s at) s (behind s at))

unfoldable pub mend_from : Option ℕ → Bytes → ℕ → Mended
mend_from last s at = mend_fields (suc (length s - at)) last s at

unfoldable pub mended : Bytes → Mended
mended s = mend_from none s 0

-- ---- "the number and place the reader would give once those changes are made, [..] the place counted in the original sheet"

-- the original's place for a place in the mended sheet: one in an added halt counts as the thread's last statement, "8 at the last
-- statement for a halt past 64"
unfoldable pub original : Bytes → List Change → ℕ → ℕ
original s [] p = p
original s (exchanged at ∷ cs) p = original s cs p
original s (halt_added at ∷ cs) p =
    if ltb p (behind s at) then p
    else if ltb p (behind s at + length halt) then at
    else original s cs (p - length halt)

unfoldable pub at_place : {A : Type 0} → (ℕ → ℕ) → Got A → Got A
at_place f (bad r p) = bad r (f p)
at_place f (got a q) = got a q

-- "9 tried on the original"; then the reader's; "then 9, place 0, where added halts make the sheet too long"
unfoldable pub mend_sheet : Bytes → Got Mended
mend_sheet s =
    let m = mended s in
    need (leb (length s) longest_sheet) too_long 0 (
    and_then (at_place (original s m.changes) (read_fields m.bytes)) (λ _ e.
    need (leb (length m.bytes) longest_sheet) too_long 0 (
    got m e)))

-- ---- two lent buffers

-- "Each change goes into a second lent buffer as two numbers"
unfoldable pub numbers_of : List Change → List ℕ
numbers_of [] = []
numbers_of (exchanged at ∷ cs) = 1 ∷ at ∷ numbers_of cs
numbers_of (halt_added at ∷ cs) = 2 ∷ at ∷ numbers_of cs

-- number and place, "length written (0 if refused) [..] for each output" (ticket 2), and what both buffers hold at the end
pub record Mending : Type 0 where
  pub refusal : ℕ
  pub place : ℕ
  pub written : ℕ
  pub listed : ℕ
  pub sheet : Bytes
  pub list : List ℕ

-- "The rest of both outputs is zero."
abbrev pub filled : ℕ → List ℕ → List ℕ
filled n xs = xs ++ replicate (n - length xs) 0

-- "both outputs zeroed"
abbrev pub refused_with : ℕ → ℕ → Refusal → ℕ → Mending
refused_with n k r p = record { refusal = number r; place = p; written = 0; listed = 0; sheet = replicate n 0; list = replicate k 0 }

abbrev pub mended_with : ℕ → ℕ → Mended → Mending
mended_with n k m = record {
  refusal = 0;
  place = 0;
  written = length m.bytes;
  listed = length (numbers_of m.changes);
  sheet = filled n m.bytes;
  list = filled k (numbers_of m.changes);
}

-- "then 19 for either output, place 0"
unfoldable pub mend_into : ℕ → ℕ → Got Mended → Mending
mend_into n k (bad r p) = refused_with n k r p
mend_into n k (got m e) =
    if leb (length m.bytes) n && leb (length (numbers_of m.changes)) k then mended_with n k m
    else refused_with n k output_full 0

-- a sheet, with buffers of n bytes and k numbers
unfoldable pub mend : Bytes → ℕ → ℕ → Mending
mend s n k = mend_into n k (mend_sheet s)
