-- The parts of a sheet before its threads: what the code keeps of each, and the reader moved on behind it.
use Rattle.std.specs.Prelude.{List, ℕ, length, Result, Ok, Err}
use Rattle.rules.specs.Interval.{Interval}
use Rattle.rules.specs.Format.{Bytes, Got, bad, got, read_locks, read_variables, read_threads}
use Rattle.refusal.specs.declared.Fault.{Fault}
use Rattle.refusal.specs.Shape.{fault_at}
use Rattle.field.specs.Header.{header_of, header_at}
use Rattle.field.specs.declared.fields.Header.{Header}
use Rattle.reader.specs.declared.held.Reader.{Reader}
use Rattle.reader.specs.declared.Index.{Index}
use Rattle.reader.specs.Index.{index_with}

-- ---- a part

-- what f keeps of what was read, and the place behind it; or the refusal and its place
abbrev pub part_of : {A B : Type 0} → (A → B) → Got A → Result (B × ℕ) Fault
part_of f (bad r p) = Err (fault_at r p)
part_of f (got a q) = Ok (f a, q)

abbrev pub header_part : Bytes → ℕ → Result (Header × ℕ) Fault
header_part s at = part_of header_of (header_at s at)

abbrev pub locks_part : Bytes → ℕ → Result (ℕ × ℕ) Fault
locks_part s at = part_of (λ k. k) (read_locks s at)

abbrev pub variables_part : Bytes → ℕ → Result (ℕ × ℕ) Fault
variables_part s at = part_of (λ (vs : List Interval). length vs) (read_variables s at)

-- ---- by a reader

-- what a part gives, with the reader moved on
abbrev pub read_on : {B : Type 0} → Reader → Result (B × ℕ) Fault → Result (B × Reader) Fault
read_on r (Ok (b, q)) = Ok (b, record { sheet = r.sheet; at = q })
read_on r (Err f) = Err f

-- ---- the whole

-- what follows on what was read, from the place behind it; a refusal is passed on
abbrev pub onward : {B C : Type 0} → Result (B × ℕ) Fault → (B → ℕ → Result C Fault) → Result C Fault
onward (Err f) g = Err f
onward (Ok (b, q)) g = g b q

-- all parts, each from where the one before it ended; behind them stand the threads
unfoldable pub walked_index : Bytes → Result Index Fault
walked_index s =
    onward (header_part s 0) (λ h p.
    onward (locks_part s p) (λ k q.
    onward (variables_part s q) (λ n r.
    index_with h k n (read_threads n k s r))))
