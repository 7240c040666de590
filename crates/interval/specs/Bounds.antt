-- Which numbers lie on an interval, as tests; and the least and the greatest of what an operation gives at the ends of two spans.
use Rattle.std.specs.Prelude.{◌≡◌, Bool, ◌&&◌, ℤ}
use Rattle.std.specs.Ordering.{ord_min, ord_max}
use Rattle.std.specs.declared.cmp.Ordering.{Ordering}
use Rattle.std.specs.Int.Signed.{le_z}
use Rattle.rules.specs.Interval.{Interval}
use Rattle.interval.specs.declared.Val.{Val}
use Rattle.interval.specs.declared.Span.{Span}

unfoldable pub holds : Interval → ℤ → Bool
holds i z = le_z i.low z && le_z z i.high

-- whether both ends of the second lie on the first
unfoldable pub holds_ends : Interval → Interval → Bool
holds_ends i j = holds i j.low && holds i j.high

-- what an operation gives at the ends of two spans, and the least and the greatest of the four
pub record EndsOf {T : Type 0} (cmp : T → T → Ordering) (gives : Val → Val → T → Type 0) (a b : Span) (least greatest : T) : Type 0 where
  pub p : T
  pub q : T
  pub r : T
  pub s : T
  pub low_low : gives a.low b.low p
  pub low_high : gives a.low b.high q
  pub high_low : gives a.high b.low r
  pub high_high : gives a.high b.high s
  pub is_least : least ≡ ord_min cmp (ord_min cmp p q) (ord_min cmp r s)
  pub is_greatest : greatest ≡ ord_max cmp (ord_max cmp p q) (ord_max cmp r s)
