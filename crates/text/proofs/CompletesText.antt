-- The bytes before the place of a 20 can be completed to a readable text: so that place is no earlier than the first byte that
-- cannot go on, and the text's end where it is that.
use Rattle.std.specs.Prelude.{if◌then◌else◌}
use mathlib.Core.Path.{◌≡◌, refl, sym, ap, subst, ◌∙◌}
use mathlib.Core.Bool.{Bool, true, false}
use mathlib.Core.List.{List, [], ◌∷◌, ◌++◌}
use Prim.Native.Nat.{ℕ, zero, suc, ◌-◌, ◌≤◌, ◌<◌}
use native.Mathlib.Nat.{le_refl}
use native.Mathlib.Decide.{dec_lt}
use native.Mathlib.Omega.{arith}
use lib.Dec.{T}
use lib.ListN.{length, take, drop, length-append, length-drop, take-append-drop}
use Rattle.rules.specs.Base.{nil}
use Rattle.rules.specs.Format.{Bytes, AreBytes}
use Rattle.rules.specs.Program.{halt}
use Rattle.rules.proofs.Base.{each_both}
use Rattle.text.specs.Words.{bytes, Read, stop, took, then_read, map_read, spaces, number, line_end}
use Rattle.text.specs.Lines.{Line, locks_line, thread_line, statement_line, Due, locks_due, var_due, reg_due, statement_due, due_after, line_here, read_line, Started, starts, may_end, read_lines, Text, head_line, ends, read_text}
use Rattle.text.specs.Claims.{Completed}
use Rattle.text.proofs.Compute.{every-text}
use Rattle.text.proofs.Within.{Within, Eats}
use Rattle.text.proofs.LinesWithin.{line-eats, lines-turn}
use Rattle.text.proofs.Orderly.{AtEnd, past_more, Skips, spaces-before, Extends, Orderly}
use Rattle.text.proofs.OrderlyWords.{number-orderly}
use Rattle.text.proofs.OrderlyLines.{line-orderly}
use Rattle.text.proofs.OrderlyText.{further, head-orderly, ends-orderly, after-label, after-budget, after-limit, text_is, after-label-skips, after-budget-skips, after-limit-skips, text-within}
use Rattle.text.proofs.CannotGoOn.{at_end}
use Rattle.text.proofs.Follows.{no_sign, no_join, Anything, Blank, opener, are_bytes}
use Rattle.text.proofs.Completes.{Completable, completes, map-at-end}
use Rattle.text.proofs.CompletesNumbers.{number-completable}
use Rattle.text.proofs.CompletesLines.{line-completable, head-completable, ends-completable}

-- t and `more` are read to their end, whatever is known of places
pub record Ending {E B : Type 0} (F : E → Bytes → Read B) (t : Bytes) : Type 0 where
  pub more : Bytes
  pub letters : AreBytes more
  pub reads : (e : E) → (b : B) × (F e (t ++ more) ≡ took b [])

-- ---- lines that end a text

abbrev tail : Due → Bytes
tail locks_due = bytes "locks 0\nthread\nhalt\n"
tail var_due = bytes "thread\nhalt\n"
tail reg_due = bytes "halt\n"
tail statement_due = bytes "halt\n"

tail-some : (due : Due) → 0 < length (tail due)
tail-some locks_due = omega arith
tail-some var_due = omega arith
tail-some reg_due = omega arith
tail-some statement_due = omega arith

tail-bytes : (due : Due) → AreBytes (tail due)
tail-bytes locks_due = are_bytes (tail locks_due) tt
tail-bytes var_due = are_bytes (tail var_due) tt
tail-bytes reg_due = are_bytes (tail reg_due) tt
tail-bytes statement_due = are_bytes (tail statement_due) tt

module _ (m : ℕ) where
  abbrev ReadTo : Due → Bytes → Type 0
  ReadTo due s = (xs : List Started) × (read_lines m (length s) due s ≡ took xs [])

  goes_on : (due : Due) (s : Bytes) → 0 < length s → may_end due s ≡ false
  unfolding may_end
  goes_on locks_due s l = refl
  goes_on var_due s l = refl
  goes_on reg_due s l = refl
  goes_on statement_due [] l = absurd (omega arith)
  goes_on statement_due (b ∷ s) l = refl

  -- one line more
  one_more : (due : Due) (s : Bytes) (x : Line) (q : Bytes) → 0 < length s → read_line due s ≡ took x q → ReadTo (due_after x) q → ReadTo due s
  unfolding then_read map_read
  one_more due s x q l h k = (starts (m - length s) x ∷ k.0, lines-turn m due s ∙ rw (goes_on due s l, h, k.1))

  line-behind : (due : Due) (r s : Bytes) → Blank r → read_line due (r ++ s) ≡ read_line due s
  unfolding read_line
  line-behind due r s l = ap (λ v. then_read (line_here due v) line_end) (spaces-before r s l)

  over : ReadTo statement_due []
  unfolding read_lines may_end
  over = ([], refl)

  -- what each tail begins with
  locks-line : read_line locks_due (tail locks_due) ≡ took (locks_line 0) (tail var_due)
  unfolding every-text
  locks-line = refl

  thread-line : read_line var_due (tail var_due) ≡ took thread_line (tail reg_due)
  unfolding every-text
  thread-line = refl

  first-halt : read_line reg_due (tail reg_due) ≡ took (statement_line 0 0 halt) []
  unfolding every-text
  first-halt = refl

  later-halt : read_line statement_due (tail statement_due) ≡ took (statement_line 0 0 halt) []
  unfolding every-text
  later-halt = refl

  behind-blank : (due : Due) (r : Bytes) (x : Line) (q : Bytes) → Blank r → read_line due (tail due) ≡ took x q → ReadTo (due_after x) q → ReadTo due (r ++ tail due)
  behind-blank due r x q l h k = one_more due (r ++ tail due) x q (omega (arith, length-append r (tail due), tail-some due)) (line-behind due r (tail due) l ∙ h) k

  tail-reads : (due : Due) (r : Bytes) → Blank r → ReadTo due (r ++ tail due)
  unfolding due_after spaces
  tail-reads statement_due r l = behind-blank statement_due r (statement_line 0 0 halt) [] l later-halt over
  tail-reads reg_due r l = behind-blank reg_due r (statement_line 0 0 halt) [] l first-halt over
  tail-reads var_due r l = behind-blank var_due r thread_line (tail reg_due) l thread-line (behind-blank reg_due [] (statement_line 0 0 halt) [] (le_refl 0) first-halt over)
  tail-reads locks_due r l =
      behind-blank locks_due r (locks_line 0) (tail var_due) l locks-line
      (behind-blank var_due [] thread_line (tail reg_due) (le_refl 0) thread-line (behind-blank reg_due [] (statement_line 0 0 halt) [] (le_refl 0) first-halt over))

-- ---- all lines

abbrev lines_from : Due → ℕ → Bytes → Read (List Started)
lines_from due m s = read_lines m (length s) due s

-- a line completed, and lines that end the text
from-line : (due : Due) (t : Bytes) → AtEnd (read_line due t) → Ending (lines_from due) t
from-line due t e =
    let d = completes (read_line due) (line-completable due) t e in
    let next = due_after d.value in
    record {
      more = d.more ++ tail next;
      letters = each_both d.more (tail next) d.letters (tail-bytes next);
      reads = λ m. one_more m due (t ++ (d.more ++ tail next)) d.value (d.rest ++ tail next)
          (omega (arith, length-append t (d.more ++ tail next), length-append d.more (tail next), tail-some next)) (d.reads (tail next) tt) (tail-reads m next d.rest d.blank);
    }

ends-here : (due : Due) (t : Bytes) → T (may_end due t) → Ending (lines_from due) t
unfolding may_end
ends-here locks_due t h = absurd h
ends-here var_due t h = absurd h
ends-here reg_due t h = absurd h
ends-here statement_due [] h = record { more = []; letters = nil; reads = over }
ends-here statement_due (b ∷ t) h = absurd h

-- the next line, or those behind it
one_line : (k n : ℕ) (due : Due) (t : Bytes) → length t ≤ k → ((z : Line) (r : Bytes) → length r < k → AtEnd (lines_from (due_after z) n r) → Ending (lines_from (due_after z)) r)
    → (x : Read Line) → read_line due t ≡ x → Eats (length t) x → ((u : Bytes) → Extends u x (read_line due (t ++ u))) → AtEnd (then_read x (further n (n - length t))) → Ending (lines_from due) t
unfolding then_read further
one_line k n due t l ih (stop r) q w ext e = from-line due t (subst AtEnd (sym q) e)
one_line k n due t l ih (took z r) q w ext e = elim (dec_lt 0 (length (spaces r))) [
  | yes j ↦
      let c = ih z r (omega arith) (map-at-end (λ xs. starts (n - length t) z ∷ xs) (lines_from (due_after z) n r) e) in
      record { more = c.more; letters = c.letters; reads = λ m. one_more m due (t ++ c.more) z (r ++ c.more) (omega (arith, length-append t c.more)) ((ext c.more).0 j) (c.reads m) }
  | no j ↦ let b : length (spaces r) ≤ 0 = omega arith in from-line due t (subst AtEnd (sym q) b)
]

by_end : (k n : ℕ) (due : Due) (t : Bytes) → length t ≤ k → ((z : Line) (r : Bytes) → length r < k → AtEnd (lines_from (due_after z) n r) → Ending (lines_from (due_after z)) r)
    → (q : Bool) → may_end due t ≡ q → AtEnd (if q then took [] t else then_read (read_line due t) (further n (n - length t))) → Ending (lines_from due) t
by_end k n due t l ih true q e = ends-here due t (subst T (sym q) tt)
by_end k n due t l ih false q e = one_line k n due t l ih (read_line due t) refl (line-eats due t) ((line-orderly due).extends t) e

lines_end : (k n : ℕ) (due : Due) (t : Bytes) → length t < k → AtEnd (lines_from due n t) → Ending (lines_from due) t
unfolding further
lines_end zero n due t l e = absurd (omega arith)
lines_end (suc k) n due t l e = by_end k n due t (omega arith) (λ z r j x. lines_end k n (due_after z) r j x) (may_end due t) refl (subst AtEnd (lines-turn n due t) e)

-- ---- header lines, and what is read behind them

-- F reads with g and then with K: what K knows of places comes from what F knows
module _ {A B D E : Type 0} {P : Bytes → Type 0} (g : Bytes → Read A) (o : Orderly g) (c : Completable Anything P Anything g) (K : D → Bytes → Read B) (skips : (d : D) → Skips (K d))
    (ending : (d : D) (r : Bytes) → AtEnd (K d r) → Ending K r) (known : E → Bytes → A → D) where
  abbrev F : E → Bytes → Read B
  F e s = then_read (g s) (λ a r. K (known e s a) r)

  from_first : (e : E) (t : Bytes) → AtEnd (g t) → Ending F t
  unfolding then_read
  from_first e t h =
      let d = completes g c t h in
      let k = ending (known e t d.value) d.rest (past_more (K (known e t d.value) d.rest) d.blank (skips (known e t d.value) d.rest)) in
      record {
        more = d.more ++ k.more;
        letters = each_both d.more k.more d.letters k.letters;
        reads = λ e.
            let x = k.reads (known e (t ++ (d.more ++ k.more)) d.value) in
            (x.0, rw (d.reads k.more tt) x.1);
      }

  by_first : (e : E) (t : Bytes) (x : Read A) → g t ≡ x → ((u : Bytes) → Extends u x (g (t ++ u))) → AtEnd (then_read x (λ a r. K (known e t a) r)) → Ending F t
  unfolding then_read
  by_first e t (stop r) q ext h = from_first e t (subst AtEnd (sym q) h)
  by_first e t (took a r) q ext h = elim (dec_lt 0 (length (spaces r))) [
    | yes l ↦
        let k = ending (known e t a) r h in
        record { more = k.more; letters = k.letters; reads = λ e. let x = k.reads (known e (t ++ k.more) a) in (x.0, rw ((ext k.more).0 l) x.1) }
    | no l ↦ let b : length (spaces r) ≤ 0 = omega arith in from_first e t (subst AtEnd (sym q) b)
  ]

  then-ending : (e : E) (t : Bytes) → AtEnd (F e t) → Ending F t
  then-ending e t h = by_first e t (g t) refl (o.extends t) h

abbrev behind_label : ((ℕ × ℕ) × (ℕ × ℕ)) × (ℕ × (ℕ × ℕ)) → Bytes → Read Text
behind_label d v = after-label d.0.0.0 d.0.0.1 d.0.1.0 d.0.1.1 d.1.0 d.1.1 v

abbrev behind_budget : (ℕ × ℕ) × (ℕ × ℕ) → Bytes → Read Text
behind_budget d t = after-budget d.0.0 d.0.1 d.1.0 d.1.1 t

abbrev behind_limit : ℕ × ℕ → Bytes → Read Text
behind_limit d r = after-limit d.0 d.1 r

-- a value made of what is read
made : {A B : Type 0} (f : A → B) (g : Read A) → (a : A) × (g ≡ took a []) → (b : B) × (map_read f g ≡ took b [])
unfolding map_read
made f g x = (f x.0, ap (map_read f) x.1)

label-ending : (d : ((ℕ × ℕ) × (ℕ × ℕ)) × (ℕ × (ℕ × ℕ))) (v : Bytes) → AtEnd (behind_label d v) → Ending behind_label v
unfolding after-label
label-ending d v e =
    let k = lines_end (suc (length v)) d.0.0.0 locks_due v (omega arith) (map-at-end _ (lines_from locks_due d.0.0.0 v) e) in
    record { more = k.more; letters = k.letters; reads = λ d. made _ (lines_from locks_due d.0.0.0 (v ++ k.more)) (k.reads d.0.0.0) }

budget-ending : (d : (ℕ × ℕ) × (ℕ × ℕ)) (t : Bytes) → AtEnd (behind_budget d t) → Ending behind_budget t
unfolding after-budget opener no_sign no_join
budget-ending d t e =
    then-ending (head_line (bytes "label") ends) (head-orderly (bytes "label") ends ends-orderly) (head-completable 108 tt (bytes "abel") tt ends ends-orderly ends-completable)
    behind_label (λ d. after-label-skips d.0.0.0 d.0.0.1 d.0.1.0 d.0.1.1 d.1.0 d.1.1) label-ending (λ d s label. (d, (d.0.0 - length s, label))) d t e

limit-ending : (d : ℕ × ℕ) (r : Bytes) → AtEnd (behind_limit d r) → Ending behind_limit r
unfolding after-limit opener no_sign no_join
limit-ending d r e =
    then-ending (head_line (bytes "budget") number) (head-orderly (bytes "budget") number number-orderly) (head-completable 98 tt (bytes "udget") tt number number-orderly number-completable)
    behind_budget (λ d. after-budget-skips d.0.0 d.0.1 d.1.0 d.1.1) budget-ending (λ d s budget. (d, (d.0 - length s, budget))) d r e

abbrev whole_text : ℕ → Bytes → Read Text
whole_text n s = then_read (head_line (bytes "limit") number s) (λ limit r. behind_limit (n, limit) r)

text-ending : (n : ℕ) (t : Bytes) → AtEnd (whole_text n t) → Ending whole_text t
unfolding opener no_sign no_join
text-ending n t e =
    then-ending (head_line (bytes "limit") number) (head-orderly (bytes "limit") number number-orderly) (head-completable 108 tt (bytes "imit") tt number number-orderly number-completable)
    behind_limit (λ d. after-limit-skips d.0 d.1) limit-ending (λ n s limit. (n, limit)) n t e

-- ---- the bytes before a stop

-- what is read to its end
completed : (p : Bytes) → AtEnd (read_text p) → Completed p
completed p e = by (text-ending (length p) p (subst AtEnd (text_is p) e))
  where
    by : Ending whole_text p → Completed p
    by k = let x = k.reads (length (p ++ k.more)) in record { more = k.more; more_bytes = k.letters; text_read = x.0; reads_text = text_is (p ++ k.more) ∙ x.1 }

pub can_go_on : (text r : Bytes) → read_text text ≡ stop r → Completed (take (length text - length r) text)
can_go_on text r h =
    let n = length text - length r in
    let l : length r ≤ length text = subst (Within (length text)) h (text-within text) in
    completed (take n text) (at_end (take n text) (drop n text) r (ap read_text (take-append-drop n text) ∙ h) (omega (arith, length-drop n text)))
