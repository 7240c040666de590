-- How a count is printed.
use Rattle.std.specs.Prelude.{ℕ, List, ◌++◌, codes, decimal}

-- "noticed of all"
abbrev pub told : ℕ → ℕ → List ℕ
told noticed all = decimal noticed ++ (codes " of " ++ decimal all)
