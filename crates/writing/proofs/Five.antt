-- The line of five numbers is never longer than 65 bytes.
use mathlib.Core.List.{[], ◌∷◌, ◌++◌}
use Prim.Native.Nat.{◌^◌, ◌≤◌, ◌<◌}
use native.Mathlib.Omega.{arith}
use lib.ListN.{length}
use Rattle.rules.specs.Search.{Answer}
use Rattle.rules.specs.Product.{decimal, line}
use Rattle.writing.specs.Out.{longest_five}
use Rattle.writing.proofs.Decimal.{number-length}

pub five-length : (a : Answer) → a.refusal < 2 ^ 32 → a.place < 2 ^ 64 → a.steps < 2 ^ 32 → a.low < 2 ^ 32 → a.high < 2 ^ 32
    → length (line a) ≤ longest_five
unfolding line
five-length a r p s l h =
    let fifth = decimal a.high ++ 10 ∷ [] in
    let fourth = decimal a.low ++ 32 ∷ fifth in
    let third = decimal a.steps ++ 32 ∷ fourth in
    let second = decimal a.place ++ 32 ∷ third in
    let r = number-length 9 a.refusal 32 second (omega arith) in
    let p = number-length 19 a.place 32 third (omega arith) in
    let s = number-length 9 a.steps 32 fourth (omega arith) in
    let l = number-length 9 a.low 32 fifth (omega arith) in
    let h = number-length 9 a.high 10 [] (omega arith) in
    omega arith
