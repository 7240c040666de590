-- `!`s before an operand.
use Rattle.std.specs.Prelude.{◌≡◌, Bool, true, [], ℕ, zero, suc, ◌≤◌, ◌<◌, ltb, length, drop, replicate, Result}
use Rattle.rules.specs.Format.{Bytes}
use Rattle.rules.specs.Program.{Condition, negation}
use Rattle.text.specs.Words.{Read, stop, then_read}
use Rattle.text.specs.Notation.{Thing, negated, atom}
use Rattle.scan.specs.Writing.{Wrote, Made, Builds}
use Rattle.scan.specs.declared.step.Built.{Built}
use Rattle.notation.specs.Forms.{thing_form}

-- n of them before what is read
unfoldable pub nots : ℕ → Read Thing → Read Thing
nots zero g = g
nots (suc n) g = then_read (nots n g) negated

unfoldable pub negations : ℕ → Condition → Condition
negations zero c = c
negations (suc n) c = negation (negations n c)

-- spaces and `!`s from p up to q, written up to e
pub record NotsRead (s : Bytes) (p : ℕ) (out : Bytes) (at : ℕ) (after : Bytes) (q e : ℕ) (some : Bool) : Type 0 where
  pub count : ℕ
  pub reads : (begin : Bytes → Read Thing) → begin [] ≡ stop [] → atom begin (drop p s) ≡ nots count (begin (drop q s))
  pub some_is : some ≡ ltb 0 count
  pub wrote : Wrote out at (replicate count 34) true after e
  pub on : p ≤ q
  pub inside : q ≤ length s
  pub from : at ≤ e
  pub top : e ≤ 65536

-- what follows them, and them
abbrev pub Negates : Bytes → Bool → Built Bool → Result (Built Bool) ℕ → Type 0
Negates s some x r = (out mid after : Bytes) (at e n : ℕ) (g : Read Thing) → length out ≡ length mid → length mid < 65536 → some ≡ ltb 0 n
    → Wrote out at (replicate n 34) true mid e → Made thing_form s mid e after g x → Builds thing_form s out at after (nots n g) r
