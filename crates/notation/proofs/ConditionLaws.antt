-- Operands of `&&`, and the `!`s before them.
use mathlib.Core.Path.{◌≡◌, refl, sym, ap, subst, ◌∙◌}
use mathlib.Core.Bool.{Bool, true}
use mathlib.Core.List.{[], ◌∷◌}
use Prim.Native.Nat.{ℕ, zero, suc, ◌+◌, ◌-◌, ◌<◌, min}
use native.Mathlib.Omega.{arith}
use borrow.Author.Tests.{ne_eqb}
use lib.ListN.{length, drop, get_or, set}
use Rattle.rules.specs.Format.{Bytes}
use Rattle.rules.specs.Program.{Arith, Condition, always, never}
use Rattle.rules.specs.Encoding.{encode_condition}
use Rattle.text.specs.Convert.{condition_fits}
use Rattle.text.specs.Lines.{word_only}
use Rattle.text.specs.Words.{bytes, Read, stop, took, then_read, map_read, spaces, apart, word, following, whole, or_none, or_whole, spell, keyword}
use Rattle.text.specs.Notation.{Thing, arithmetic, logical, on_thing, is_condition, truths, too_deep, closed, factor, first, start, atom, atomic, thing, either, chain, conjunctions}
use Rattle.scan.specs.Reading.{passed}
use Rattle.scan.specs.Writing.{Wrote, Made}
use Rattle.std.specs.Prelude.{Result, Ok, Err}
use Rattle.scan.proofs.WordLaws.{here, map-apart, spell-map}
use Rattle.scan.proofs.BuildLaws.{wrote-put}
use Rattle.notation.specs.Forms.{condition_form, thing_form, group_at, start_at, begins}
use Rattle.notation.specs.Nots.{nots, NotsRead}
use Rattle.notation.proofs.NotLaws.{nots_stop}

-- ---- truths

then-apart : {A : Type 0} (a : A) (g : Read (Unit {0})) → then_read (map_read (λ _. a) g) apart ≡ map_read (λ _. a) (then_read g apart)
unfolding then_read map_read
then-apart a (stop r) = refl
then-apart a (took u r) = sym (map-apart (λ _. a) u r)

true-word : (s : Bytes) → keyword truths (116 ∷ s) ≡ map_read (λ _. logical always) (word_only (bytes "true") (116 ∷ s))
unfolding keyword truths word_only spaces spell following or_none whole or_whole
true-word s = ap (λ g. then_read g apart) (spell-map (bytes "rue") (logical always) s) ∙ then-apart (logical always) (spell (word (bytes "rue") tt ∷ []) s)

false-word : (s : Bytes) → keyword truths (102 ∷ s) ≡ map_read (λ _. logical never) (word_only (bytes "false") (102 ∷ s))
unfolding keyword truths word_only spaces spell following or_none whole or_whole
false-word s = ap (λ g. then_read g apart) (spell-map (bytes "alse") (logical never) s) ∙ then-apart (logical never) (spell (word (bytes "alse") tt ∷ []) s)

module _ (s : Bytes) {g : Read (Unit {0})} (x : Result ℕ ℕ) (h : passed s x ≡ g) (c : Condition) where
  pub truth_stop : {q : ℕ} → x ≡ Err q → map_read (λ _. logical c) g ≡ stop (drop q s)
  unfolding map_read
  truth_stop {q} e = let k : g ≡ stop (drop q s) = sym h ∙ ap (passed s) e in rw k

  pub truth_took : {out after : Bytes} {at q e code : ℕ} → x ≡ Ok q → encode_condition c ≡ code ∷ [] → condition_fits c ≡ true
      → after ≡ set out at code → e ≡ min (at + 1) 65536 → Made thing_form s out at after (map_read (λ _. logical c) g) (record { kind = true; place = q; end = e; fits = true })
  unfolding map_read thing_form
  truth_took {out} {after} {at} {q = q} {e} {code} z b f w m =
      let k : g ≡ took tt (drop q s) = sym h ∙ ap (passed s) z in
      record {
        thing = logical c;
        is = rw k;
        kind = refl;
        fit_is = sym f;
        wrote = subst (λ t. Wrote out at t true after e) (sym b) (wrote-put out after at e code w m);
      }

pub ruleset truths_written = (truth_stop, truth_took)

-- ---- the first operand

pub group_deep : (d : ℕ) (r : Bytes) → d ≡ 0 → group_at d r ≡ too_deep r
unfolding group_at
group_deep zero r z = refl
group_deep (suc d) r z = absurd (omega arith)

pub group_is : (d : ℕ) (r : Bytes) → (d ≡ 0 → ⊥) → group_at d r ≡ closed (either (d - 1) r)
unfolding group_at
group_is zero r n = absurd (n refl)
group_is (suc d) r n = let e : suc d - 1 ≡ d = omega arith in rw e

pub ruleset groups = (group_deep, group_is)

module _ (s : Bytes) (p d : ℕ) (h : p < length s) (inside : Bytes → Read Thing) where
  pub first-true : get_or s p 0 ≡ 116 → first inside (factor d) (drop p s) ≡ map_read (λ _. logical always) (word_only (bytes "true") (drop p s))
  unfolding first
  first-true b = rw (here s p h, b) (true-word (drop (p + 1) s))

  pub first-false : get_or s p 0 ≡ 102 → first inside (factor d) (drop p s) ≡ map_read (λ _. logical never) (word_only (bytes "false") (drop p s))
  unfolding first
  first-false b = rw (here s p h, b) (false-word (drop (p + 1) s))

  pub first_leaf : (get_or s p 0 ≡ 40 → ⊥) → (get_or s p 0 ≡ 116 → ⊥) → (get_or s p 0 ≡ 102 → ⊥)
      → first inside (factor d) (drop p s) ≡ map_read arithmetic (factor d (drop p s))
  unfolding first
  first_leaf n m k = rw (here s p h, ne_eqb (get_or s p 0) 40 n, ne_eqb (get_or s p 0) 116 m, ne_eqb (get_or s p 0) 102 k)

-- a start is a first operand and what it begins; where nothing is left it stops
start_is : (d : ℕ) (t : Bytes) → start_at d t ≡ begins d (first (group_at d) (factor d) t)
unfolding start_at start begins
start_is d t = refl

start-end : (d : ℕ) → start_at d [] ≡ stop []
unfolding start_at start first then_read
start-end d = refl

-- what stops behind the `!`s stops them
begins-stop : (d : ℕ) {g : Read Thing} {u : Bytes} → g ≡ stop u → begins d g ≡ stop u
unfolding begins then_read
begins-stop d h = rw h

module _ {s : Bytes} {p : ℕ} {out : Bytes} {at : ℕ} {after : Bytes} {q e : ℕ} {some : Bool} (d : ℕ) (n : NotsRead s p out at after q e some) where
  pub atom-reads : atom (start_at d) (drop p s) ≡ nots n.count (begins d (first (group_at d) (factor d) (drop q s)))
  atom-reads = n.reads (start_at d) (start-end d) ∙ ap (nots n.count) (start_is d (drop q s))

  pub atom-stops : {u : Bytes} → begins d (first (group_at d) (factor d) (drop q s)) ≡ stop u → atom (start_at d) (drop p s) ≡ stop u
  atom-stops {u} h = atom-reads ∙ ap (nots n.count) h ∙ nots_stop n.count u

  pub atom-none : {u : Bytes} → first (group_at d) (factor d) (drop q s) ≡ stop u → atom (start_at d) (drop p s) ≡ stop u
  atom-none h = atom-stops (begins-stop d h)

-- ---- the whole

pub either_is : (d : ℕ) (t : Bytes) → either d t ≡ thing (start_at d) t
unfolding either start_at group_at
either_is zero t = refl
either_is (suc d) t = refl

module _ (d : ℕ) (t : Bytes) {u : Bytes} where
  pub either-arithmetic : {a : Arith} → atom (start_at d) t ≡ took (arithmetic a) u → either d t ≡ took (arithmetic a) u
  unfolding thing then_read on_thing
  either-arithmetic h = either_is d t ∙ rw h

  pub either-logical : {c : Condition} → atom (start_at d) t ≡ took (logical c) u
      → either d t ≡ map_read logical (chain conjunctions (atomic (start_at d)) (length u) c u)
  unfolding thing then_read on_thing
  either-logical h = either_is d t ∙ rw h

pub atomic_is : (d : ℕ) (t : Bytes) → atomic (start_at d) t ≡ then_read (atom (start_at d) t) is_condition
unfolding atomic
atomic_is d t = refl

pub always-logical : (c : Condition) → true ≡ condition_form.logical c
unfolding condition_form
always-logical c = refl

-- ---- for a line
