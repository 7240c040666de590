-- What narrowing by a comparison gives.
use Rattle.std.specs.Prelude.{Bool, true, false, List, ℕ, ◌+◌, ltb, leb, pos, if◌then◌else◌, Some, None}
use Rattle.std.specs.Prelude as P
use Rattle.std.proofs.Math.Option.{Option, none, some}
use Rattle.rules.specs.Interval.{Interval}
use Rattle.rules.specs.Program.{Arith, constant, register}
use Rattle.rules.specs.Expression.{Regs, equal_yes, equal_no, less_yes, less_no}
use Rattle.rules.specs.Format as F
use Rattle.rules.specs.Format.{Bytes, byte}
use Rattle.interval.specs.declared.Span.{Span}
use Rattle.expression.specs.Evaluation.{regs_of}
use Rattle.expression.specs.declared.kind.Relation.{Relation}
use Rattle.expression.specs.declared.kind.Relation.TheVariants.{Equal, Less}

-- ---- a side of a comparison, from its bytes: one register, or anything else

unfoldable pub register_at : Bytes → ℕ → ℕ → P.Option ℕ
register_at s e p = if leb (p + 1) e then Some (byte s p) else None

abbrev pub side_by : F.ArithKind → P.Option ℕ → P.Option ℕ
side_by F.a_constant x = None
side_by F.a_register x = x
side_by F.unknown x = None
side_by (F.an_operator o) x = None

unfoldable pub side_at : Bytes → ℕ → ℕ → P.Option ℕ
side_at s e p = side_by (F.arith_at s e p) (register_at s e (p + 1))

-- an expression that narrowing treats as the side: any constant stands for what is no register
abbrev pub side_of : ℕ → P.Option ℕ → Arith
side_of n (Some r) = if ltb r n then register r else constant (pos 0)
side_of n None = constant (pos 0)

-- ---- results

-- the registers that are left, n of them: none where narrowing emptied the state
abbrev pub narrowed_of : ℕ → P.Option (List Span) → Option Regs
narrowed_of n None = none
narrowed_of n (Some l) = some (regs_of n l)

-- the rule of yes, and the rule of no
abbrev pub comparison_rule : Bool → Relation → Arith → Arith → Regs → Interval → Interval → Option Regs
comparison_rule true Equal a b rs = equal_yes a b rs
comparison_rule false Equal a b rs = equal_no rs
comparison_rule true Less a b rs = less_yes a b rs
comparison_rule false Less a b rs = less_no a b rs
