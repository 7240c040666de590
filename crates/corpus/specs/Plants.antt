-- What the number of a plant stands for.
use Rattle.std.specs.Prelude.{ℕ, eqb, if◌then◌else◌, Result, Ok, Err}
use Rattle.corpus.specs.declared.plants.Planted.{Planted}
use Rattle.corpus.specs.declared.plants.Planted.TheVariants.{Nothing, WrongNumber, WrongSheet}

-- the number itself where it stands for nothing
abbrev pub planted_of : ℕ → Result Planted ℕ
planted_of code =
    if eqb code 0 then Ok Nothing
    else if eqb code 1 then Ok WrongNumber
    else if eqb code 2 then Ok WrongSheet
    else Err code
