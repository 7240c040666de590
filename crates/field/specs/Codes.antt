-- A statement's code as the code has it, and the number that the sheet gives it.
use Rattle.std.specs.Prelude.{ℕ, eqb, if◌then◌else◌, Result, Ok, Err}
use Rattle.refusal.specs.declared.Refusal.{Refusal}
use Rattle.refusal.specs.declared.Refusal.TheVariants.{OffRange}
use Rattle.field.specs.declared.codes.Code.{Code}
use Rattle.field.specs.declared.codes.Code.TheVariants.{Halt, Skip, Assign, Branch, Store, Load, Unlock, Lock}

abbrev pub number_of : Code → ℕ
number_of Halt = 0
number_of Skip = 1
number_of Assign = 2
number_of Branch = 3
number_of Store = 4
number_of Load = 5
number_of Unlock = 6
number_of Lock = 7

-- the code of a number, where it is one
abbrev pub code_of : ℕ → Result Code Refusal
code_of c =
    if eqb c 0 then Ok Halt
    else if eqb c 1 then Ok Skip
    else if eqb c 2 then Ok Assign
    else if eqb c 3 then Ok Branch
    else if eqb c 4 then Ok Store
    else if eqb c 5 then Ok Load
    else if eqb c 6 then Ok Unlock
    else if eqb c 7 then Ok Lock
    else Err OffRange
