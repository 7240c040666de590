-- The calls so far, and the one that a turn makes.
use Rattle.std.proofs.Common.{rules, of_calls, ◌+◌, ℕ, subst, sym, inr, Option, Some}
use Rattle.std.proofs.Math.Numerals.{add-one}
use Rattle.std.proofs.lemmas.Fn.{Called-on}
use Rattle.std.specs.Fn.{Mut, CalledWithState}
use denote.Ref.{MutBor}
use Rattle.corpus.specs.Entries.{Calls}
use Rattle.corpus.proofs.over_entries.Goals as goal

-- one call more
more : {F S T : Type 0} (g : Mut F (MutBor S × (T × Unit {0})) (Option T × (MutBor S × Unit {0}))) (n : ℕ) (f : F) (s : S) (t : T) (f' : F) (s' : S) (t' : T) (f'' : F) (s'' : S) (t'' : T)
    → Calls g n f s t f' s' t' → CalledWithState g f' s' t' (Some t'') f'' s'' → Calls g (n + 1) f s t f'' s'' t''
more g n f s t f' s' t' f'' s'' t'' before call = subst (λ k. Calls g k f s t f'' s'' t'') (sym (add-one n)) (f', s', t', before, call)

pub returns-in_default-clause-entries : goal.returns-in_default-clause-entries
returns-in_default-clause-entries g c = (
  c.in_ok-count.count,
  c.front.new.from,
  search rules,
  search rules,
  (c.loop.counter, c.loop.next, c.loop.from, c.loop.invariant.1, inr (search rules, (c.next.new.self, Called-on g.F.FnMut c.next.ensures (search rules)))),
)

pub loop-preserved : goal.loop-preserved
loop-preserved g c = (search (rules, of_calls), more g.F.FnMut c.loop.counter _ _ _ _ _ _ _ _ _ c.loop.invariant.1 (Called-on g.F.FnMut c.next.ensures c.in-Some.is))
