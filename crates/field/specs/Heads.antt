-- The head of a field, as the code has it.
use Rattle.std.specs.Prelude.{ℕ, ◌+◌, if◌then◌else◌, Result, Ok, Err}
use Rattle.rules.specs.Refusal.{short}
use Rattle.rules.specs.Format.{Bytes, byte, num16, has_head}
use Rattle.refusal.specs.declared.Fault.{Fault}
use Rattle.refusal.specs.Shape.{fault_at}
use Rattle.field.specs.declared.heads.Field.{Field}

-- its tag and its length, and the place behind it; where it is not whole, a fault
abbrev pub field_at : Bytes → ℕ → Result Field Fault
field_at s at = if has_head s at
    then Ok (record { tag = byte s at; length = num16 s (at + 1); body = at + 3 })
    else Err (fault_at short at)
