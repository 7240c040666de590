-- The lines of a program by what the code has of it: a statement as it is decoded, ranges where they stand, and the index.
use Rattle.std.specs.Prelude.{◌≡◌, ◌++◌, ℕ, ◌≤◌, Ok}
use Rattle.rules.specs.Constants.{deepest}
use Rattle.rules.specs.Interval.{Interval}
use Rattle.rules.specs.Program as R
use Rattle.rules.specs.Program.{Arith, Condition, Thread, Header}
use Rattle.rules.specs.Format.{Bytes, got, read_arith, read_condition, read_sheet}
use Rattle.rules.specs.Encoding.{in_row}
use Rattle.rules.specs.Product.{bytes}
use Rattle.text.specs.Lines.{locks_line}
use Rattle.text.specs.Says.{statement_line_of}
use Rattle.field.specs.declared.decoding.Action.{Action}
use Rattle.field.specs.declared.decoding.Action.TheVariants.{Halt, Skip, Assign, Branch, Store, Load, Unlock, Lock}
use Rattle.reader.specs.declared.Index.{Index}
use Rattle.reader.specs.Index.{index_of}
use Rattle.printed.specs.Print.{print_range, print_action, ended, print_header}

-- ---- what a statement does, as the code decodes it

-- t is its text
abbrev pub TextOf : Bytes → Action → Bytes → Type 0
TextOf s Halt t = print_action R.halt ≡ t
TextOf s Skip t = print_action R.skip ≡ t
TextOf s (Assign r at e) t = (n : ℕ) × (x : Arith) × (read_arith deepest s e n at ≡ got x e) × (print_action (R.assign r x) ≡ t)
TextOf s (Branch k at e) t = (n : ℕ) × (c : Condition) × (read_condition deepest s e n at ≡ got c e) × (print_action (R.branch k c) ≡ t)
TextOf s (Store r v) t = print_action (R.store r v) ≡ t
TextOf s (Load r v) t = print_action (R.load r v) ≡ t
TextOf s (Unlock l) t = print_action (R.unlock l) ≡ t
TextOf s (Lock l) t = print_action (R.lock l) ≡ t

-- its expression ends inside a sheet of n bytes
abbrev pub EndsIn : ℕ → Action → Type 0
EndsIn n Halt = Unit {0}
EndsIn n Skip = Unit {0}
EndsIn n (Assign r at e) = e ≤ n
EndsIn n (Branch t at e) = e ≤ n
EndsIn n (Store r v) = Unit {0}
EndsIn n (Load r v) = Unit {0}
EndsIn n (Unlock l) = Unit {0}
EndsIn n (Lock l) = Unit {0}

-- ---- lines, each with its newline

unfoldable pub statement_text : R.Statement → Bytes
statement_text x = ended (statement_line_of x)

unfoldable pub range_text : Bytes → Interval → Bytes
range_text w i = w ++ (print_range i ++ bytes "\n")

unfoldable pub thread_text : Thread → Bytes
thread_text t = bytes "thread\n" ++ (in_row (range_text (bytes "reg ")) t.regs ++ in_row statement_text t.statements)

unfoldable pub head_text : Header → ℕ → Bytes
head_text h locks = print_header h ++ ended (locks_line locks)

-- ---- the index

abbrev pub header_of : Index → Header
header_of i = record { limit = i.limit.0; budget = i.budget; label_low = i.label_low.0; label_high = i.label_high.0 }

-- of a sheet that reads
abbrev pub Indexes : Bytes → Index → Type 0
Indexes s i = index_of (read_sheet s) ≡ Ok i
