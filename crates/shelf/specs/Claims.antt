-- What is claimed of a lookup as a whole (02, ticket 14), stated without a look that goes from pair to pair. Nothing here is
-- proved: `proofs/Claims.antt` proves the whole, `LookupClaims`.
use Rattle.std.specs.Prelude.{◌≡◌, ◌||◌, List, [], ◌∷◌, ◌++◌, ℕ, ◌+◌, T, leb, eqb, length}
use Rattle.rules.specs.Base.{Each}
use Rattle.rules.specs.Refusal.{Refusal, number, no_such_name}
use Rattle.rules.specs.Format.{Bytes, AreBytes, bad}
use Rattle.shelf.specs.Pairs.{pair, read_pair}
use Rattle.shelf.specs.Lookup.{customers, ours, file_of, bytes_of, Answer, found, refused, lookup}
use Rattle.shelf.specs.Worked.{RowsHold}

-- ---- a file as it is written: names with their sheets, a pair for each

pub record Entry : Type 0 where
  pub name : ℕ
  pub sheet : Bytes

unfoldable pub pairs : List Entry → Bytes
pairs [] = []
pairs (e ∷ es) = pair e.name e.sheet ++ pairs es

abbrev pub Lack : ℕ → List Entry → Type 0
Lack name es = Each (λ e. e.name ≡ name → ⊥) es

-- the file is whole, and lacks the name
pub record Without (name : ℕ) (file : Bytes) : Type 0 where
  pub entries : List Entry
  pub is_whole : file ≡ pairs entries
  pub lack : Lack name entries

-- "The first pair with the name wins": the pairs in front of it have other names, what stands behind it does not matter, and the
-- sheet stands behind its own pair's two headers and the name
pub record First (name : ℕ) (file : Bytes) (place : ℕ) (sheet : Bytes) : Type 0 where
  pub before : List Entry
  pub behind : Bytes
  pub is_written : file ≡ pairs before ++ pair name sheet ++ behind
  pub lack : Lack name before
  pub starts : place ≡ length (pairs before) + 7

-- "A malformed field stops the look at once": behind pairs of other names stands something that does not read as a pair
pub record Stops (name : ℕ) (file : Bytes) (r : Refusal) (place : ℕ) : Type 0 where
  pub before : List Entry
  pub next : ℕ
  pub behind : Bytes
  pub is_written : file ≡ pairs before ++ next ∷ behind
  pub lack : Lack name before
  pub unread : read_pair file (length (pairs before)) ≡ bad r place

-- ---- the five ways in which a lookup ends, each with its answer

pub data Ends (name : ℕ) (customer house : Bytes) : Answer → Type 0 where
  in_customers : (p : ℕ) (sheet : Bytes) → First name customer p sheet → Ends name customer house (found customers p (length sheet))
  customers_stops : (r : Refusal) (p : ℕ) → Stops name customer r p → Ends name customer house (refused customers r p)
  in_ours : Without name customer → (p : ℕ) (sheet : Bytes) → First name house p sheet → Ends name customer house (found ours p (length sheet))
  ours_stops : Without name customer → (r : Refusal) (p : ℕ) → Stops name house r p → Ends name customer house (refused ours r p)
  neither : Without name customer → Without name house → Ends name customer house (refused ours no_such_name 0)

-- ---- the claims, of every name and all files of bytes

-- the sheet handed back is the one of the first pair with the name, in the file and at the place that are named; where it is ours,
-- the customer's file is whole and lacks the name
pub record IsFirst (name : ℕ) (customer house : Bytes) (a : Answer) : Type 0 where
  pub first : First name (file_of a.file customer house) a.place (bytes_of a.part customer house)
  pub same_file : a.part.file ≡ a.file
  pub same_place : a.part.from ≡ a.place
  pub customers_lacks : a.file ≡ ours → Without name customer

pub record LookupClaims : Type 0 where
  -- the rows worked out by hand
  pub rows_hold : RowsHold
  -- every lookup ends in one of the five ways, with that way's answer
  pub ends : (name : ℕ) (customer house : Bytes) → AreBytes customer → AreBytes house → Ends name customer house (lookup name customer house)
  -- and with no other
  pub only : (name : ℕ) (customer house : Bytes) (a : Answer) → Ends name customer house a → a ≡ lookup name customer house
  -- so what is found is the first pair's
  pub first : (name : ℕ) (customer house : Bytes) → AreBytes customer → AreBytes house → (lookup name customer house).refusal ≡ 0
      → IsFirst name customer house (lookup name customer house)
  -- and 5 means that both files are whole and lack the name
  pub five : (name : ℕ) (customer house : Bytes) → AreBytes customer → AreBytes house → (lookup name customer house).refusal ≡ number no_such_name
      → Without name customer × Without name house
  -- no other number than 0, 1, 2, 3 and 5 is given
  pub numbers : (name : ℕ) (customer house : Bytes) → let n = (lookup name customer house).refusal in T (leb n 3 || eqb n 5)
