-- Expressions printed along the bytes: the printed form of the tree that the same bytes read as.
use Rattle.std.specs.Prelude.{◌≡◌, Bool, true, false, [], ◌∷◌, ℕ}
use Rattle.rules.specs.Base.{Free}
use Rattle.rules.specs.Format.{Bytes, Got, bad, got}
use Rattle.rules.specs.Product.{bytes}
use Rattle.expression.specs.declared.kind.Relation.{Relation}
use Rattle.expression.specs.declared.kind.Relation.TheVariants.{Equal, Less}
use Rattle.writing.specs.Out.{Writes}
use Rattle.infix.specs.declared.Walked.{Walked}

-- what was read at a place is printed by F, and the place behind it is known; of what does not read, both are left free: the sheet is read
-- before anything of it is printed
unfoldable pub Prints : {A : Type 0} → (A → Bytes) → Got A → Bytes → ℕ → Bytes → Walked → Type 0
Prints F (bad r p) l at m w = Free {A = Bytes × Walked} (m, w)
Prints F (got a q) l at m w = (w.next ≡ q) × Writes (F a) l at m w.at

-- the two halves of `in_parentheses`
abbrev pub opening : Bool → Bytes
opening true = 40 ∷ []
opening false = []

abbrev pub closing : Bool → Bytes
closing true = 41 ∷ []
closing false = []

abbrev pub relation_sign : Relation → Bytes
relation_sign Equal = bytes " == "
relation_sign Less = bytes " < "
