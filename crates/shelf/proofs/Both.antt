-- Both files: a malformed one ends the lookup, the part that is found lies in its file, and the answer's numbers name it.
use mathlib.Core.Path.{◌≡◌, refl, sym, ap, ◌∙◌, subst⁻¹}
use mathlib.Core.Bool.{Bool}
use Prim.Native.Nat.{ℕ, ◌+◌, ◌≤◌, zero-le}
use borrow.Author.Tests.{ne_eqb}
use Rattle.std.specs.Prelude.{Result, Ok, Err, if◌then◌else◌}
use Rattle.rules.specs.Refusal as R
use Rattle.rules.specs.Refusal.{number, no_such_name}
use Rattle.rules.specs.Format.{Bytes}
use Rattle.rules.proofs.Refusal.{positive}
use Rattle.refusal.specs.declared.Fault.{Fault}
use Rattle.refusal.specs.Shape.{refusal_of, rule_of}
use Rattle.field.proofs.outcome.Laws.{same-rule}
use Rattle.shelf.specs.Pairs as P
use Rattle.shelf.specs.Pairs.{hit, miss, stop, look_in}
use Rattle.shelf.specs.Lookup as L
use Rattle.shelf.specs.Lookup.{Part, Answer, customers, ours, file_number, file_of, refused, empty_start, look_on, lookup}
use Rattle.shelf.specs.declared.Numbers.{Numbers}
use Rattle.shelf.specs.Shape.{look_of, numbers_of, file_by, part_of, Fits}
use Rattle.shelf.proofs.Look.{InFile, look-in-file}

-- what the code's look in a file is refused for, the lookup is refused for
pub on-stop : (f : L.File) (after : Answer) (g : P.Look) {d : Fault} → look_of g ≡ Err d → look_on f g after ≡ refused f (rule_of d.refusal) d.place
unfolding look_on
on-stop f after (hit q n) h = absurd (cc)
on-stop f after miss h = absurd (cc)
on-stop f after (stop k m) {d} h =
    let c : refusal_of k ≡ d.refusal = cc in let i : m ≡ d.place = cc in (λ t. refused f (same-rule k c t) (i t))

module _ (customer house : Bytes) where
  on-fits : (f : L.File) (g : P.Look) (after : Answer) → InFile (file_of f customer house) g → Fits after.part customer house → Fits (look_on f g after).part customer house
  unfolding look_on
  on-fits f (hit p n) after h k = h
  on-fits f miss after h k = k
  on-fits f (stop r p) after h k = zero-le

  pub found-fits : (name : ℕ) → Fits (lookup name customer house).part customer house
  unfolding lookup
  found-fits name = on-fits customers (look_in name customer) _ (look-in-file customer name) (on-fits ours (look_in name house) _ (look-in-file house name) zero-le)

-- ---- the part that the numbers name is the rule's, and lies in its file

same_file : (f : L.File) → file_by (file_number f) ≡ f
same_file customers = refl
same_file ours = refl

-- the numbers of an answer name its part
abbrev Named : Answer → Type 0
Named a = part_of (numbers_of a) ≡ a.part

refused-named : (f : L.File) (r : R.Refusal) (p : ℕ) → Named (refused f r p)
refused-named f r p =
    ap (λ (b : Bool). if b then record { file = file_by (file_number f); from = p; size = 0 } else empty_start) (ne_eqb (number r) 0 (positive r))

on-named : (f : L.File) (g : P.Look) (after : Answer) → Named after → Named (look_on f g after)
unfolding look_on
on-named f (hit p n) after h = ap (λ (e : L.File). record { file = e; from = p; size = n }) (same_file f)
on-named f miss after h = h
on-named f (stop r p) after h = refused-named f r p

module _ (name : ℕ) (customer house : Bytes) where
  named : Named (lookup name customer house)
  unfolding lookup
  named = on-named customers (look_in name customer) _ (on-named ours (look_in name house) _ (refused-named ours no_such_name 0))

  module _ {x : Numbers} (e : x ≡ numbers_of (lookup name customer house)) where
    pub part-named : part_of x ≡ (lookup name customer house).part
    part-named = ap part_of e ∙ named

    pub found-part-fits : Fits (part_of x) customer house
    found-part-fits = subst⁻¹ (λ (p : Part). Fits p customer house) part-named (found-fits customer house name)
