-- Locks: one rule for runs and for the search. A lock has "an owner or none".
use Rattle.std.specs.Prelude.{Bool, true, ℕ, eqb, if◌then◌else◌}
use Rattle.std.proofs.Math.Option.{Option, none, some}

abbrev pub Owner : Type 0
Owner = Option ℕ

-- "free, or owned already": thread t may take the lock
unfoldable pub may_take : ℕ → Owner → Bool
may_take t none = true
may_take t (some u) = eqb u t

-- the owner once thread t has tried to take the lock
unfoldable pub after_lock : ℕ → Owner → Owner
after_lock t o = if may_take t o then some t else o

-- "Unlock frees a lock that the thread owns, however often taken; otherwise it only moves on."
unfoldable pub after_unlock : ℕ → Owner → Owner
after_unlock t none = none
after_unlock t (some u) = if eqb u t then none else some u
