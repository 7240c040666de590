-- Lookups worked out by hand from the sentences of 02, ticket 14. All stand in one table, which carries one claim about the rule.
use Rattle.std.specs.Prelude.{◌≡◌, List, [], ◌∷◌, ◌++◌, ℕ}
use Rattle.rules.specs.Base.{Each}
use Rattle.rules.specs.Refusal.{Refusal, short, out_of_turn, bad_length, no_such_name}
use Rattle.rules.specs.Format.{Bytes}
use Rattle.rules.specs.Encoding.{field}
use Rattle.rules.specs.Worked.{B}
use Rattle.shelf.specs.Pairs.{called, pair}
use Rattle.shelf.specs.Lookup.{File, customers, ours, Answer, found, refused, lookup}

-- a name, the customer's file and ours, and the answer
pub record Row : Type 0 where
  pub name : ℕ
  pub customer : Bytes
  pub house : Bytes
  pub answer : Answer

abbrev pub Holds : Row → Type 0
Holds x = lookup x.name x.customer x.house ≡ x.answer

-- looked for by name 7: found in a file at a place, so many bytes; or refused there
abbrev pub has : Bytes → Bytes → File → ℕ → ℕ → Row
has c h f p n = record { name = 7; customer = c; house = h; answer = found f p n }

abbrev pub gives : Bytes → Bytes → File → Refusal → ℕ → Row
gives c h f r p = record { name = 7; customer = c; house = h; answer = refused f r p }

unfoldable pub rows : List Row
rows =
    -- in both files, and in the customer's twice: the customer's, and there the first
    has (pair 7 (1 ∷ []) ++ pair 7 []) (pair 7 B) customers 7 1
    ∷ has (pair 6 [] ++ pair 7 B ++ pair 7 []) [] customers 14 43
    -- in ours alone, and there twice; an empty sheet
    ∷ has (pair 6 []) (pair 5 (1 ∷ 2 ∷ []) ++ pair 7 B ++ pair 7 []) ours 16 43
    ∷ has [] (pair 7 []) ours 7 0
    -- in neither; both empty
    ∷ gives (pair 6 []) (pair 5 []) ours no_such_name 0
    ∷ gives [] [] ours no_such_name 0
    -- what stands behind a hit is not looked at, in its file or in ours; behind a pair of another name it is
    ∷ has (pair 7 [] ++ 0 ∷ []) [] customers 7 0
    ∷ has (pair 7 []) (0 ∷ []) customers 7 0
    ∷ gives (pair 6 [] ++ 0 ∷ []) (pair 7 B) customers short 7
    ∷ gives (pair 6 []) (pair 5 [] ++ 48 ∷ 0 ∷ []) ours short 7
    -- a tag that is not due: a sheet where a name is due, a name where a sheet is, another; the whole header comes first
    ∷ gives (pair 6 [] ++ field 49 []) (pair 7 B) customers out_of_turn 7
    ∷ gives (called 7 ++ pair 7 []) (pair 7 B) customers out_of_turn 4
    ∷ gives [] (pair 6 [] ++ field 49 []) ours out_of_turn 7
    ∷ gives [] (called 7 ++ field 50 []) ours out_of_turn 4
    ∷ gives (1 ∷ 0 ∷ []) [] customers short 0
    -- a name of two bytes or of none; the tag comes before the body, the body before the length
    ∷ gives (field 48 (7 ∷ 7 ∷ [])) (pair 7 B) customers bad_length 0
    ∷ gives (pair 6 [] ++ field 48 []) (pair 7 B) customers bad_length 7
    ∷ gives [] (field 48 (7 ∷ 7 ∷ [])) ours bad_length 0
    ∷ gives (pair 6 []) (pair 6 [] ++ field 48 []) ours bad_length 7
    ∷ gives (49 ∷ 0 ∷ 9 ∷ []) [] customers out_of_turn 0
    ∷ gives (48 ∷ 0 ∷ 2 ∷ 7 ∷ []) [] customers short 0
    -- a sheet that ends too soon; a name with no sheet behind it, the one that is looked for or another
    ∷ gives (called 7 ++ 49 ∷ 0 ∷ 2 ∷ 1 ∷ []) (pair 7 B) customers short 4
    ∷ gives (called 7) (pair 7 B) customers short 4
    ∷ gives [] (pair 5 [] ++ called 6) ours short 11
    -- a length of two bytes, the high byte first: 256 bytes are due
    ∷ gives (called 7 ++ 49 ∷ 1 ∷ 0 ∷ B) [] customers short 4
    ∷ []

-- the claim: each of them holds
abbrev pub RowsHold : Type 0
RowsHold = Each Holds rows
