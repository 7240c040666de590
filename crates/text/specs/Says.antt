-- What program a text says (02, ticket 2): its header, and one line for each lock count, variable, thread, register and statement,
-- in order.
use Rattle.std.specs.Prelude.{◌≡◌, List, [], ◌∷◌}
use Rattle.rules.specs.Program.{Statement, Thread, Program}
use Rattle.text.specs.Lines.{Line, locks_line, var_line, thread_line, reg_line, statement_line, Started, starts, Text}

-- one line for each, in front of the lines that follow
unfoldable pub each : {A : Type 0} → (A → Line) → List A → List Line → List Line
each f [] ys = ys
each f (x ∷ xs) ys = f x ∷ each f xs ys

unfoldable pub statement_line_of : Statement → Line
statement_line_of x = statement_line x.least x.greatest x.action

unfoldable pub thread_lines : List Thread → List Line
thread_lines [] = []
thread_lines (t ∷ ts) = thread_line ∷ each reg_line t.regs (each statement_line_of t.statements (thread_lines ts))

-- the lines of a program behind `limit`, `budget` and `label`
unfoldable pub lines_of : Program → List Line
lines_of g = locks_line g.locks ∷ each var_line g.vars (thread_lines g.threads)

-- lines without their places
unfoldable pub bare : List Started → List Line
bare [] = []
bare (starts p x ∷ xs) = x ∷ bare xs

pub record Says (t : Text) (g : Program) : Type 0 where
  pub header : t.header ≡ g.header
  pub lines : bare t.lines ≡ lines_of g
