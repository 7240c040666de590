-- A name; and the line of a refusal.
use Rattle.std.specs.Prelude.{Some}
use mathlib.Core.Path.{◌≡◌, sym, ap, ◌∙◌}
use Prim.Native.Nat.{ℕ, ◌≤◌}
use native.Mathlib.Omega.{arith}
use borrow.Author.Tests.{le-leb}
use Rattle.digits.proofs.Laws.{decimals-read, cut_small}
use Rattle.writing.specs.Out as O
use Rattle.shelf_main.specs.Text as T
use Rattle.shelf_main.specs.Text.{name_of, name_in, NamesRead}

-- ---- a name

held : (k : ℕ) → k ≤ 255 → Some k ≡ name_of (Some k)
unfolding name_of
held k h = rw (le-leb k 255 h)

pub names-read : NamesRead
unfolding name_in
names-read n h = ap name_of (decimals-read n ∙ ap Some (cut_small n (omega arith))) ∙ sym (held n h)

-- ---- a refusal's line

-- to name it on an `unfolding` line is to unfold the line
unfoldable pub said_line : Unit {0}
unfolding T.line_unless_found T.line O.line_of O.write
said_line = tt
