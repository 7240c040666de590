-- One file (02, ticket 14): "fields of tag 48 with a 1-byte name, then tag 49 with a sheet's bytes, in pairs"; and the look for a
-- name in it. Every reader takes the whole file and a place in it.
use Rattle.std.specs.Prelude.{true, [], ◌∷◌, ◌++◌, ℕ, zero, suc, ◌+◌, leb, eqb, length, if◌then◌else◌}
use Rattle.rules.specs.Refusal.{Refusal, short}
use Rattle.rules.specs.Format.{Bytes, Got, bad, got, and_then, need, map_got, byte, num16, has_body, due, sized}
use Rattle.rules.specs.Encoding.{field}

-- ---- a pair as it is written: a name's field, then a sheet's

abbrev pub called : ℕ → Bytes
called name = field 48 (name ∷ [])

abbrev pub pair : ℕ → Bytes → Bytes
pair name sheet = called name ++ field 49 sheet

-- ---- and as it is read: "1, 2, 3 as in 01, with .. the field's place"

-- "tag 48 with a 1-byte name"
unfoldable pub read_name : Bytes → ℕ → Got ℕ
read_name f at = due 48 f at (sized f at 1 true (byte f (at + 3)))

-- "tag 49 with a sheet's bytes": how many. "The sheet isn't read here and may be empty."
unfoldable pub pass_sheet : Bytes → ℕ → Got ℕ
pass_sheet f at =
    let n = num16 f (at + 1) in
    due 49 f at (need (has_body f at) short at (got n (at + 3 + n)))

-- a name, the place of its sheet's first byte, and how many bytes the sheet has
pub record Pair : Type 0 where
  pub name : ℕ
  pub place : ℕ
  pub size : ℕ

unfoldable pub read_pair : Bytes → ℕ → Got Pair
read_pair f at = and_then (read_name f at) (λ name p. map_got (λ n. record { name = name; place = p + 3; size = n }) (pass_sheet f p))

-- ---- the look

-- what it comes to: the place and the size of the sheet, nothing, or a refusal and the place at fault
pub data Look : Type 0 where
  hit : ℕ → ℕ → Look
  miss : Look
  stop : Refusal → ℕ → Look

-- "The first pair with the name wins"; behind a pair of another name the look goes on. "A malformed field stops the look at once."
unfoldable pub on_pair : ℕ → Got Pair → (ℕ → Look) → Look
on_pair name (bad r p) more = stop r p
on_pair name (got x q) more = if eqb x.name name then hit x.place x.size else more q

-- pair after pair to the file's end; k is at least the number of pairs that are left
unfoldable pub look_pairs : ℕ → ℕ → Bytes → ℕ → Look
look_pairs zero name f at = miss
look_pairs (suc k) name f at = if leb (length f) at then miss else on_pair name (read_pair f at) (λ q. look_pairs k name f q)

-- a file has no more pairs than bytes
unfoldable pub look_in : ℕ → Bytes → Look
look_in name f = look_pairs (length f) name f 0
