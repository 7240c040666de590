-- The `reg` lines of a thread, counted one by one.
use mathlib.Core.Path.{◌≡◌, sym, ap, ◌∙◌}
use mathlib.Core.Bool.{true}
use Rattle.std.specs.Prelude.{Result, Ok, Err}
use Prim.Native.Nat.{ℕ, suc, ◌+◌, ◌-◌, ◌≤◌, ◌<◌, min}
use native.Mathlib.Omega.{arith}
use lib.ListN.{length, drop, length-drop}
use Rattle.rules.specs.Format.{Bytes}
use Rattle.text.specs.Words.{bytes}
use Rattle.text.specs.Lines.{range, head_line, reg_due}
use Rattle.lines.specs.Reading.{one_end, pair, pair_of}
use Rattle.lines.specs.Registers.{register_line, on_register, registers_in, ahead_of}
use Rattle.lines.specs.declared.ranges.Pair.{Pair}
use Rattle.lines.proofs.RegisterLines.{register-shorter, registers-turn}
use Rattle.lines.proofs.RangeLaws.{head-stop, head-took}

-- so many stand from p up to q; they are counted up to 255
pub record Counted (s : Bytes) (p n q : ℕ) : Type 0 where
  pub inside : q ≤ length s
  pub count : ℕ
  pub count_is : n ≡ min count 255
  pub rest : ahead_of reg_due (drop p s) ≡ count + ahead_of reg_due (drop q s)

module _ (s : Bytes) (p n q : ℕ) (c : Counted s p n q) (x : Result Pair ℕ)
    (h : pair_of pair s x ≡ head_line (bytes "reg") (range (one_end true) pair) (drop q s)) where
  pub counted-over : {t : ℕ} → x ≡ Err t → n ≡ min (ahead_of reg_due (drop p s)) 255
  unfolding ahead_of register_line on_register
  counted-over {t} e =
      let z = head-stop s (bytes "reg") q (sym h ∙ ap (pair_of pair s) e) in
      let k : ahead_of reg_due (drop q s) ≡ 0 = registers-turn (drop q s) ∙ ap (λ g. on_register g (λ r. registers_in (length r) r)) z in
      let i = c.rest in
      let j = c.count_is in
      omega arith

  module _ (y : Pair) (e : x ≡ Ok y) (l : y.place ≤ length s) where
    counted-shorter : q < y.place
    unfolding register_line
    counted-shorter =
        let z = head-took s (bytes "reg") q (sym h ∙ ap (pair_of pair s) e) in
        let k : length (drop y.place s) < length (drop q s) = register-shorter (drop q s) z.reads in
        let i = length-drop y.place s in
        let j = length-drop q s in
        let m = c.inside in
        omega arith

    pub counted-falls : length s - y.place < length s - q
    counted-falls = let k = counted-shorter in omega arith

    pub counted-more : {m : ℕ} → m ≡ min (n + 1) 255 → Counted s p m y.place
    unfolding ahead_of register_line on_register
    counted-more {m} f =
        let z = head-took s (bytes "reg") q (sym h ∙ ap (pair_of pair s) e) in
        let r = z.reads in
        let k : ahead_of reg_due (drop q s) ≡ suc (ahead_of reg_due (drop y.place s)) = registers-turn (drop q s)
        ∙ ap (λ g. on_register g (λ r. registers_in (length r) r)) r in
        let i = c.rest in
        let j = c.count_is in
        record { inside = l; count = c.count + 1; count_is = omega arith; rest = omega arith }
