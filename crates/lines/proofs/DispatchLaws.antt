-- Which line or statement stands, by its first byte.
use Rattle.std.specs.Prelude.{if◌then◌else◌, Result}
use mathlib.Core.Path.{◌≡◌, refl, sym, ap, subst, ◌∙◌}
use mathlib.Core.Bool.{Bool, true, false, ◌&&◌}
use mathlib.Core.List.{[], ◌∷◌}
use Prim.Native.Nat.{ℕ, ◌+◌, ◌≤◌, ◌<◌}
use borrow.Author.Tests.{ne_eqb}
use lib.Dec.{eqb}
use lib.ListN.{length, drop, get_or}
use Rattle.rules.specs.Format.{Bytes}
use Rattle.rules.specs.Interval.{Interval, interval}
use Rattle.rules.specs.Program.{Action, halt, store, load, unlock, lock}
use Rattle.rules.specs.Encoding.{code_of, encode_operands}
use Rattle.text.specs.Words.{bytes, Read, stop, took, then_read, map_read, is_digit, spaces, number, signed, word, following, spell, keyword, line_end}
use Rattle.text.specs.Lines.{Line, locks_line, var_line, thread_line, reg_line, statement_line, range, word_only, head_line, assignment, actions, action_here, timed, Due, locks_due, var_due, reg_due, statement_due, due_after, openings, takes_times, line_here, read_line}
use Rattle.text.specs.Convert.{action_fits, line_fits, field_of}
use Rattle.scan.proofs.WordLaws.{here, over}
use Rattle.scan.proofs.Readings.{head-map, same_head, range-map}
use Rattle.lines.proofs.WordChoice.{one-decides, first-is, first-is-not}
use Rattle.lines.specs.Writing.{OneName, TwoNames, RangeTag, Acts, Lines}
use Rattle.scan.specs.declared.step.Built.{Built}
use Rattle.lines.specs.declared.line.Due as D

-- ---- codes and tags

pub store-names : TwoNames 4 store
unfolding code_of encode_operands action_fits
store-names = record { code_is = λ a b. refl; bytes_are = λ a b. refl; fits_is = λ a b. refl }

pub load-names : TwoNames 5 load
unfolding code_of encode_operands action_fits
load-names = record { code_is = λ a b. refl; bytes_are = λ a b. refl; fits_is = λ a b. refl }

pub unlock-name : OneName 6 unlock
unfolding code_of encode_operands action_fits
unlock-name = record { code_is = λ a. refl; bytes_are = λ a. refl; fits_is = λ a. refl }

pub lock-name : OneName 7 lock
unfolding code_of encode_operands action_fits
lock-name = record { code_is = λ a. refl; bytes_are = λ a. refl; fits_is = λ a. refl }

pub var-tag : RangeTag 2 var_line
unfolding field_of line_fits
var-tag = record { bytes_are = λ n i. refl; fits_is = λ i. refl }

pub reg-tag : RangeTag 5 reg_line
unfolding field_of line_fits
reg-tag = record { bytes_are = λ n i. refl; fits_is = λ i. refl }

pub var-due : (i : Interval) → var_due ≡ due_after (var_line i)
unfolding due_after
var-due i = refl

pub reg-due : (i : Interval) → reg_due ≡ due_after (reg_line i)
unfolding due_after
reg-due i = refl

-- ---- what a statement does

module _ (s : Bytes) (q : ℕ) where
  pub action-over : length s ≤ q → action_here (drop q s) ≡ stop (drop q s)
  unfolding action_here
  action-over h = rw (over s q h)

  pub action-assigns : q < length s → get_or s q 0 ≡ 114 → assignment (drop q s) ≡ action_here (drop q s)
  unfolding action_here
  action-assigns h e = rw (here s q h, e)

  pub action-worded : q < length s → (get_or s q 0 ≡ 114 → ⊥) → then_read (keyword actions (drop q s)) (λ f r. f r) ≡ action_here (drop q s)
  unfolding action_here
  action-worded h n = rw (here s q h, ne_eqb (get_or s q 0) 114 n)

pub spaces-twice : (s : Bytes) → spaces (spaces s) ≡ spaces s
unfolding spaces
spaces-twice [] = refl
spaces-twice (b ∷ s) = by (spaces-twice s) (eqb b 32) refl
  where
    by : spaces (spaces s) ≡ spaces s → (x : Bool) → eqb b 32 ≡ x → spaces (if x then spaces s else b ∷ s) ≡ (if x then spaces s else b ∷ s)
    by h true e = h
    by h false e = rw e

-- ---- a line

-- what stands on it and its end
module _ (s : Bytes) (q : ℕ) (h : q < length s) (k : spaces (drop q s) ≡ drop q s) where
  abbrev b : ℕ
  b = get_or s q 0

  -- a line that one word begins
  worded : (d : Due) (w : Bytes) (f : Bytes → Read Line) → (takes_times d && is_digit b) ≡ false
      → spell (openings d) (drop q s) ≡ spell (word w f ∷ []) (drop q s)
      → then_read (then_read (word_only w (drop q s)) (λ _ r. f r)) line_end ≡ then_read (line_here d (drop q s)) line_end
  unfolding line_here
  worded d w f n e = ap (λ g. then_read g line_end) (sym (one-decides (openings d) w f (drop q s) k e) ∙ chosen)
    where
      chosen : then_read (keyword (openings d) (drop q s)) (λ g r. g r) ≡ line_here d (drop q s)
      chosen = rw (here s q h, n)

  pub locks-line : then_read
      (then_read (word_only (bytes "locks") (drop q s)) (λ _ t. map_read locks_line (number t))) line_end ≡ then_read
      (line_here locks_due (drop q s)) line_end
  unfolding takes_times openings
  locks-line = worded locks_due (bytes "locks") (λ t. map_read locks_line (number t)) refl refl

  pub var-line : b ≡ 118
      → then_read (then_read (word_only (bytes "var") (drop q s)) (λ _ t. range signed (λ x y. var_line (interval x y)) t))
      line_end ≡ then_read (line_here var_due (drop q s)) line_end
  unfolding takes_times openings following
  var-line e = worded var_due (bytes "var") (range signed (λ x y. var_line (interval x y))) refl
      (rw (here s q h) (first-is b 118 (bytes "ar") (range signed (λ x y. var_line (interval x y)))
      (word (bytes "thread") (λ t. took thread_line t) ∷ []) (drop (q + 1) s) e refl))

  pub first-thread-line : (b ≡ 118 → ⊥)
      → then_read (then_read (word_only (bytes "thread") (drop q s)) (λ _ t. took thread_line t)) line_end ≡ then_read
      (line_here var_due (drop q s)) line_end
  unfolding takes_times openings
  first-thread-line n = worded var_due (bytes "thread") (λ t. took thread_line t) refl
      (rw (here s q h) (first-is-not b 118 (bytes "ar") (range signed (λ x y. var_line (interval x y)))
      (word (bytes "thread") (λ t. took thread_line t) ∷ []) (drop (q + 1) s) n))

  pub reg-line : is_digit b ≡ false → b ≡ 114
      → then_read (then_read (word_only (bytes "reg") (drop q s)) (λ _ t. range signed (λ x y. reg_line (interval x y)) t))
      line_end ≡ then_read (line_here reg_due (drop q s)) line_end
  unfolding takes_times openings following
  reg-line m e = worded reg_due (bytes "reg") (range signed (λ x y. reg_line (interval x y))) m
      (rw (here s q h) (first-is b 114 (bytes "eg") (range signed (λ x y. reg_line (interval x y)))
      (word (bytes "halt") (λ t. took (statement_line 0 0 halt) t) ∷ []) (drop (q + 1) s) e refl))

  pub first-halt-line : is_digit b ≡ false → (b ≡ 114 → ⊥)
      → then_read (then_read (word_only (bytes "halt") (drop q s)) (λ _ t. took (statement_line 0 0 halt) t)) line_end ≡ then_read
      (line_here reg_due (drop q s)) line_end
  unfolding takes_times openings
  first-halt-line m n = worded reg_due (bytes "halt") (λ t. took (statement_line 0 0 halt) t) m
      (rw (here s q h) (first-is-not b 114 (bytes "eg") (range signed (λ x y. reg_line (interval x y)))
      (word (bytes "halt") (λ t. took (statement_line 0 0 halt) t) ∷ []) (drop (q + 1) s) n))

  pub thread-line : is_digit b ≡ false → b ≡ 116
      → then_read (then_read (word_only (bytes "thread") (drop q s)) (λ _ t. took thread_line t)) line_end ≡ then_read
      (line_here statement_due (drop q s)) line_end
  unfolding takes_times openings following
  thread-line m e = worded statement_due (bytes "thread") (λ t. took thread_line t) m
      (rw (here s q h) (first-is b 116 (bytes "hread") (λ t. took thread_line t)
      (word (bytes "halt") (λ t. took (statement_line 0 0 halt) t) ∷ []) (drop (q + 1) s) e refl))

  pub halt-line : is_digit b ≡ false → (b ≡ 116 → ⊥)
      → then_read (then_read (word_only (bytes "halt") (drop q s)) (λ _ t. took (statement_line 0 0 halt) t)) line_end ≡ then_read
      (line_here statement_due (drop q s)) line_end
  unfolding takes_times openings
  halt-line m n = worded statement_due (bytes "halt") (λ t. took (statement_line 0 0 halt) t) m
      (rw (here s q h) (first-is-not b 116 (bytes "hread") (λ t. took thread_line t)
      (word (bytes "halt") (λ t. took (statement_line 0 0 halt) t) ∷ []) (drop (q + 1) s) n))

  pub timed-first : is_digit b ≡ true → timed (drop q s) ≡ line_here reg_due (drop q s)
  unfolding line_here takes_times
  timed-first e = rw (here s q h, e)

  pub timed-later : is_digit b ≡ true → timed (drop q s) ≡ line_here statement_due (drop q s)
  unfolding line_here takes_times
  timed-later e = rw (here s q h, e)

-- ---- as the lines' own readers say it

pub word-alone : (w s : Bytes) (x : Line)
    → then_read (word_only w s) (λ _ t. line_end x t) ≡ then_read (then_read (word_only w s) (λ _ t. took x t)) line_end
unfolding then_read
word-alone w s x = by (word_only w s)
  where
    by : (g : Read (Unit {0})) → then_read g (λ _ t. line_end x t) ≡ then_read (then_read g (λ _ t. took x t)) line_end
    by (stop r) = refl
    by (took _ r) = refl

pub line-over : (d : Due) (s : Bytes) (p q : ℕ) → drop q s ≡ spaces (drop p s) → length s ≤ q → read_line d (drop p s) ≡ stop (drop q s)
unfolding read_line line_here then_read
line-over d s p q e h = let z : drop q s ≡ [] = over s q h in rw (sym e, z)

pub line-there : (d : Due) (s : Bytes) (p q : ℕ) → drop q s ≡ spaces (drop p s)
    → then_read (line_here d (drop q s)) line_end ≡ read_line d (drop p s)
unfolding read_line
line-there d s p q e = ap (λ t. then_read (line_here d t) line_end) e

pub locks-there : (s : Bytes) (q : ℕ)
    → map_read locks_line (head_line (bytes "locks") number (drop q s)) ≡ then_read
    (then_read (word_only (bytes "locks") (drop q s)) (λ _ t. map_read locks_line (number t))) line_end
unfolding head_line
locks-there s q = sym (head-map (bytes "locks") number locks_line (drop q s))

pub range-there : (s : Bytes) (q : ℕ) (w : Bytes) (f : Interval → Line)
    → map_read f (head_line w (range signed interval) (drop q s)) ≡ then_read
    (then_read (word_only w (drop q s)) (λ _ t. range signed (λ x y. f (interval x y)) t)) line_end
unfolding head_line
range-there s q w f = sym (head-map w (range signed interval) f (drop q s)) ∙ same_head w (range-map signed interval f) (drop q s)

pub acts-as : (s o m : Bytes) (at : ℕ) (g h : Read Action) (r : Result (Built ℕ) ℕ) → Acts s o at m g r → g ≡ h → Acts s o at m h r
acts-as s o m at g h r l e = subst (λ k. Acts s o at m k r) e l

pub lines-as : (s o m : Bytes) (at : ℕ) (g h : Read Line) (r : Result (Built D.Due) ℕ) → Lines s o at m g r → g ≡ h → Lines s o at m h r
lines-as s o m at g h r l e = subst (λ k. Lines s o at m k r) e l
