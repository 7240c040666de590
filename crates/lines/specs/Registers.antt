-- How many `reg` lines stand from here on: what the field of their thread says.
use Rattle.std.specs.Prelude.{List, [], ◌∷◌, ℕ, zero, suc, length}
use Rattle.rules.specs.Format.{Bytes}
use Rattle.rules.specs.Interval.{Interval, interval}
use Rattle.text.specs.Words.{bytes, Read, stop, took, signed}
use Rattle.text.specs.Lines.{locks_line, var_line, thread_line, reg_line, statement_line, Started, starts}
use Rattle.text.specs.Lines.{range, head_line, Due, locks_due, var_due, reg_due, statement_due}
use Rattle.text.specs.Convert.{Piece, field_of, line_fits}

-- a `reg` line, to its end
unfoldable pub register_line : Bytes → Read Interval
register_line s = head_line (bytes "reg") (range signed interval) s

unfoldable pub on_register : Read Interval → (Bytes → ℕ) → ℕ
on_register (stop r) f = 0
on_register (took i r) f = suc (f r)

-- the number only bounds how many
unfoldable pub registers_in : ℕ → Bytes → ℕ
registers_in zero s = 0
registers_in (suc k) s = on_register (register_line s) (λ r. registers_in k r)

unfoldable pub ahead_of : Due → Bytes → ℕ
ahead_of locks_due s = 0
ahead_of var_due s = 0
ahead_of reg_due s = registers_in (length s) s
ahead_of statement_due s = 0

-- ---- the fields of lines behind which n more registers follow

unfoldable pub ahead_with : ℕ → List Started → ℕ
ahead_with n [] = n
ahead_with n (starts p (locks_line k) ∷ xs) = 0
ahead_with n (starts p (var_line i) ∷ xs) = 0
ahead_with n (starts p thread_line ∷ xs) = 0
ahead_with n (starts p (reg_line i) ∷ xs) = suc (ahead_with n xs)
ahead_with n (starts p (statement_line a b x) ∷ xs) = 0

unfoldable pub pieces_with : ℕ → List Started → List Piece
pieces_with n [] = []
pieces_with n (starts p x ∷ xs) = record { start = p; whole = field_of (ahead_with n xs) x; fits = line_fits x } ∷ pieces_with n xs
