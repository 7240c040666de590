-- Which refusals are given: of the sheet 1 to 9; of the record 1 to 5, 9, 10, 16 and 21. So what holds of an answer that leaves a state and of
-- each such refusal holds of every answer.
use mathlib.Core.Path.{◌≡◌, refl, sym, ap}
use mathlib.Core.Bool.{Bool, true, false, ◌||◌}
use mathlib.Core.List.{List, [], ◌∷◌, ◌++◌}
use Prim.Native.Nat.{ℕ, zero, suc, ◌+◌, ◌-◌}
use native.Mathlib.Omega.{arith}
use lib.Dec.{T, leb, ltb, eqb}
use lib.IntN.{ℤ}
use lib.ListN.{length}
use Rattle.rules.specs.Refusal.{Refusal, number, no_such_name, too_long, Result, value, fault}
use Rattle.rules.specs.Interval.{Interval}
use Rattle.rules.specs.Program.{Thread, Program}
use Rattle.rules.specs.Format.{Bytes, Got, bad, got, and_then, byte, num16, due, sized, read_sheet}
use Rattle.rules.specs.Run.{RunThread, Outcome, not_event, no_result, next, step, finished}
use Rattle.rules.proofs.Base.{if-ind}
use Rattle.rules.proofs.Refusal.{positive}
use Rattle.rules.proofs.Given.{OfArithmetic, zero_divisor, off_the_scale}
use Rattle.rules.proofs.Numbers.{Refuses, need-refuses, then-refuses, due-refuses, sized-refuses, sheet-refusals}
use Rattle.rules.proofs.RunFaults.{FaultOnly, step-arithmetic}
use Rattle.recorded.specs.Follow.{longest_record, tick_after, Replay, start_value, start_values, at_start, start_threads, start_replay, replayed, replay, at_field, follow_event, follow_events, follow_from, follow_record}
use Rattle.recorded.specs.Follow.{the_sheet, the_record, Answer, leaves, refused, answer_of, follow_with, follow}

-- ---- the record's numbers

abbrev OfRecord : Refusal → Type 0
OfRecord r = let n = number r in T (leb n 5 || (eqb n 9 || (eqb n 10 || (eqb n 16 || eqb n 21))))

module _ (r : Bytes) where
  value-refuses : (i : Interval) (at : ℕ) → Refuses OfRecord (start_value i r at)
  unfolding start_value
  value-refuses i at = due-refuses OfRecord 32 r at _ tt tt (sized-refuses OfRecord r at 4 _ _ tt tt tt)

  values-refuse : (is : List Interval) (zs : List ℤ) (at : ℕ) → Refuses OfRecord (start_values is zs r at)
  unfolding start_values
  values-refuse [] zs at = tt
  values-refuse (i ∷ is) zs at =
      then-refuses OfRecord (start_value i r at) (λ z q. start_values is (zs ++ z ∷ []) r q) (value-refuses i at) (λ z q. values-refuse is (zs ++ z ∷ []) q)

  threads-refuse : (ts : List Thread) (xs : List RunThread) (at : ℕ) → Refuses OfRecord (start_threads ts xs r at)
  unfolding start_threads
  threads-refuse [] xs at = tt
  threads-refuse (t ∷ ts) xs at =
      then-refuses OfRecord (start_values t.regs [] r at) (λ zs q. start_threads ts (xs ++ at_start zs ∷ []) r q) (values-refuse t.regs [] at)
      (λ zs q. threads-refuse ts (xs ++ at_start zs ∷ []) q)

  start-refuses : (g : Program) → Refuses OfRecord (start_replay g r)
  unfolding start_replay
  start-refuses g =
      then-refuses OfRecord (start_values g.vars [] r 0) _ (values-refuse g.vars [] 0) (λ vs p.
      then-refuses OfRecord (start_threads g.threads [] r p) _ (threads-refuse g.threads [] p) (λ xs q. tt))

  -- ---- an event's

  abbrev Faults : Result Replay → Type 0
  Faults (fault n) = OfRecord n
  Faults (value y) = Unit {0}

  of-arithmetic : (n : Refusal) → OfArithmetic n → OfRecord n
  of-arithmetic n zero_divisor = tt
  of-arithmetic n off_the_scale = tt

  replayed-faults : (e : ℕ) (o : Outcome) → FaultOnly o → Faults (replayed e o)
  unfolding replayed
  replayed-faults e not_event h = tt
  replayed-faults e (no_result n) h = of-arithmetic n h
  replayed-faults e (next s) h = tt

  replay-faults : (g : Program) (x : Replay) (t c : ℕ) → Faults (replay g x t c)
  unfolding replay
  replay-faults g x t c =
      let e = tick_after x.tick c in
      if-ind (ltb t (length g.threads)) (replayed e (step g x.state t e)) (fault no_such_name) Faults
      (λ _. replayed-faults e (step g x.state t e) (step-arithmetic g x.state t e)) (λ _. tt)

  at-field-refuses : (at q : ℕ) (z : Result Replay) → Faults z → Refuses OfRecord (at_field at q z)
  unfolding at_field
  at-field-refuses at q (fault n) h = h
  at-field-refuses at q (value y) h = tt

  event-refuses : (g : Program) (at : ℕ) (x : Replay) → Refuses OfRecord (follow_event g r at x)
  unfolding follow_event
  event-refuses g at x =
      let z = replay g x (byte r (at + 3)) (num16 r (at + 4)) in
      then-refuses OfRecord (due 33 r at (sized r at 3 true 3)) (λ _ q. at_field at q z)
      (due-refuses OfRecord 33 r at _ tt tt (sized-refuses OfRecord r at 3 true 3 tt tt tt))
      (λ _ q. at-field-refuses at q z (replay-faults g x (byte r (at + 3)) (num16 r (at + 4))))

  events-refuse : (k : ℕ) (g : Program) (at : ℕ) (x : Replay) → Refuses OfRecord (follow_events k g r at x)
  unfolding follow_events
  events-refuse zero g at x = tt
  events-refuse (suc k) g at x =
      if-ind (leb (length r) at) (got x at) (and_then (follow_event g r at x) (λ y q. follow_events k g r q y)) (Refuses OfRecord) (λ _. tt)
      (λ _. then-refuses OfRecord (follow_event g r at x) (λ y q. follow_events k g r q y) (event-refuses g at x) (λ y q. events-refuse k g q y))

  record-refuses : (g : Program) → Refuses OfRecord (follow_record g r)
  unfolding follow_record follow_from
  record-refuses g =
      need-refuses OfRecord (leb (length r) longest_record) too_long 0 _ tt
      (then-refuses OfRecord (start_replay g r) (λ x q. follow_events (length r - q) g r q x) (start-refuses g) (λ x q. events-refuse (length r - q) g q x))

-- ---- every answer

module _ (P : Answer → Type 0) (left : (done : Bool) (tick : ℕ) → P (leaves done tick))
    (of-sheet : (n : Refusal) (p : ℕ) → T (leb (number n) 9) → P (refused the_sheet n p))
    (of-record : (n : Refusal) (p : ℕ) → OfRecord n → P (refused the_record n p)) where
  each-answer : (g : Program) (x : Got Replay) → Refuses OfRecord x → P (answer_of g x)
  unfolding answer_of
  each-answer g (bad n p) h = of-record n p h
  each-answer g (got y q) h = left (finished g y.state) y.tick

  each-reading : (sheet r : Bytes) (x : Got Program) → read_sheet sheet ≡ x → P (follow_with r x)
  unfolding follow_with
  each-reading sheet r (bad n p) e = of-sheet n p (sheet-refusals sheet n p e)
  each-reading sheet r (got g end) e = each-answer g (follow_record g r) (record-refuses r g)

  pub every-answer : (sheet r : Bytes) → P (follow sheet r)
  unfolding follow
  every-answer sheet r = each-reading sheet r (read_sheet sheet) refl

-- the two files are two
two-files : {A : Type 0} → the_sheet ≡ the_record → A
two-files e = absurd (let z : ◌≡◌ {A = ℕ} 0 1 = cc in omega arith)

-- "Refused, naming sheet or record, unfinished at tick 0"; where nothing is refused, the file is the sheet and the place 0
pub refused_unfinished : (sheet r : Bytes) → ((follow sheet r).refusal ≡ 0 → ⊥) → ((follow sheet r).finished ≡ false) × ((follow sheet r).tick ≡ 0)
refused_unfinished =
    every-answer (λ a. (a.refusal ≡ 0 → ⊥) → (a.finished ≡ false) × (a.tick ≡ 0)) (λ _ _ h. absurd (h refl))
    (λ _ _ _ _. (refl, refl)) (λ _ _ _ _. (refl, refl))

pub finished-unrefused : (sheet r : Bytes) → T (follow sheet r).finished → (follow sheet r).refusal ≡ 0
finished-unrefused = every-answer (λ a. T a.finished → a.refusal ≡ 0) (λ _ _ _. refl) (λ _ _ _ t. absurd t) (λ _ _ _ t. absurd t)

pub run_file_and_place : (sheet r : Bytes) → (follow sheet r).refusal ≡ 0 → ((follow sheet r).file ≡ the_sheet) × ((follow sheet r).place ≡ 0)
run_file_and_place =
    every-answer (λ a. a.refusal ≡ 0 → (a.file ≡ the_sheet) × (a.place ≡ 0)) (λ _ _ _. (refl, refl))
    (λ n _ _ z. absurd (positive n z)) (λ n _ _ z. absurd (positive n z))

pub sheet_numbers : (sheet r : Bytes) → (follow sheet r).file ≡ the_sheet → T (leb (follow sheet r).refusal 9)
sheet_numbers = every-answer (λ a. a.file ≡ the_sheet → T (leb a.refusal 9)) (λ _ _ _. tt) (λ _ _ h _. h) (λ _ _ _ e. two-files (sym e))

pub record_numbers : (sheet r : Bytes) → (follow sheet r).file ≡ the_record
    → let n = (follow sheet r).refusal in T (leb n 5 || (eqb n 9 || (eqb n 10 || (eqb n 16 || eqb n 21))))
record_numbers =
    every-answer (λ a. a.file ≡ the_record → let n = a.refusal in T (leb n 5 || (eqb n 9 || (eqb n 10 || (eqb n 16 || eqb n 21)))))
    (λ _ _ e. two-files e) (λ _ _ _ e. two-files e) (λ _ _ h _. h)

-- "the sheet's own number first", with its own place
pub sheet_first : (sheet r : Bytes) (n : Refusal) (p : ℕ) → read_sheet sheet ≡ bad n p → follow sheet r ≡ refused the_sheet n p
unfolding follow follow_with
sheet_first sheet r n p e = ap (follow_with r) e
