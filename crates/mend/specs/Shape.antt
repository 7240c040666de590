-- What the code writes and gives back, in terms of the definition.
use Rattle.std.specs.Prelude.{◌≡◌, Bool, List, [], ◌∷◌, ℕ, ◌+◌, ◌-◌, ltb, length, if◌then◌else◌, Option, Some, None}
use Rattle.std.proofs.Math.Option as O
use Rattle.std.specs.declared.ops.ControlFlow.{ControlFlow}
use Rattle.std.specs.declared.ops.ControlFlow.TheVariants.{Continue, Break}
use Rattle.rules.specs.Base.{at_front}
use Rattle.rules.specs.Format.{Bytes}
use Rattle.rules.specs.Sheets.{halt}
use Rattle.writing.specs.Out.{Writes}
use Rattle.mended.specs.Mend.{Mended, numbers_of, Mending}
use Rattle.mend.specs.declared.writer.Ends.{Ends}
use Rattle.mend.specs.declared.writer.Kind.{Kind}
use Rattle.mend.specs.declared.writer.Kind.TheVariants.{Exchanged, HaltAdded}
use Rattle.mend.specs.declared.outputs.Mending as D

-- "kind (1 exchanged, 2 halt added)"
abbrev pub kind_number : Kind → ℕ
kind_number Exchanged = 1
kind_number HaltAdded = 2

-- the statement before a place, where it wants a halt behind it, as the rule has it
abbrev pub last_of : Option ℕ → O.Option ℕ
last_of (Some p) = O.some p
last_of None = O.none

-- and where it gets one: its thread closes there
abbrev pub added_to : Bool → Option ℕ → Option ℕ
added_to closes o = if closes then o else None

-- a part of the mended sheet is written behind what both outputs have
pub record Puts (m : Mended) (out : Bytes) (list : List ℕ) (ends : Ends) (out' : Bytes) (list' : List ℕ) (ends' : Ends) : Type 0 where
  pub bytes_put : Writes m.bytes out ends.bytes out' ends'.bytes
  pub changes_put : Writes (numbers_of m.changes) list ends.numbers list' ends'.numbers

-- nothing is written yet
abbrev pub no_ends : Ends
no_ends = record { bytes = 0; numbers = 0 }

-- ---- a place counted in the original

-- past the halt that was added at a place behind the statement `last`, or past nothing
unfoldable pub past_halt : Option ℕ → ℕ → ℕ → ControlFlow ℕ ℕ
past_halt None at p = Continue p
past_halt (Some last) at p = if ltb p at then Break p else if ltb p (at + length halt) then Break last else Continue (p - length halt)

-- ---- what the call gives

-- with what both outputs hold afterwards
abbrev pub mending_of : D.Mending → Bytes → List ℕ → Mending
mending_of r sheet list = record { refusal = r.refusal; place = r.place; written = r.written; listed = r.listed; sheet = sheet; list = list }

-- where nothing is refused, so far as both outputs were written
abbrev pub mended_by : Ends → Bytes → List ℕ → Mending
mended_by e sheet list = record { refusal = 0; place = 0; written = e.bytes; listed = e.numbers; sheet = sheet; list = list }

-- ---- what the exported call gives

abbrev pub four : ℕ → ℕ → ℕ → ℕ → List ℕ
four r p w l = r ∷ p ∷ w ∷ l ∷ []

-- the refusal, and the four numbers at the front of an array that has room for them
pub record FourIn (x : Mending) (before after : List ℕ) (r : ℕ) : Type 0 where
  pub refusal_is : r ≡ x.refusal
  pub numbers_are : after ≡ at_front (four x.refusal x.place x.written x.listed) before

-- what is left in both outputs
pub record Leaves (x : Mending) (sheet : Bytes) (list : List ℕ) : Type 0 where
  pub sheet_is : sheet ≡ x.sheet
  pub list_is : list ≡ x.list
