-- Starting values, one by one, and the threads with theirs.
use Rattle.std.proofs.Common.{◌≡◌, ℕ, zero, suc, ◌+◌, ◌<◌, ◌≤◌, List, [], ◌∷◌, ◌++◌, map, length, get_or, take, drop, set, replicate, ℤ, sym, refl, ap, ◌∙◌, le_of_suc-le-suc, not-suc-le-zero, add-one, arith, drop_of_length-le, take_all, drop-cons}
use Rattle.std.proofs.lemmas.List.{get_or-map, length-map, take-map}
use mathlib.Core.Option.{none}
use Rattle.rules.specs.Constants.{most_registers, most_locks}
use Rattle.rules.specs.Refusal as R
use Rattle.rules.specs.Interval.{Interval}
use Rattle.rules.specs.Expression.{zero_interval}
use Rattle.rules.specs.Format.{Bytes, Got, bad, got, and_then}
use Rattle.rules.specs.Lock.{Owner}
use Rattle.rules.specs.Program.{Program, no_thread}
use Rattle.rules.specs.Run as Run
use Rattle.interval.specs.declared.Val.{Val}
use Rattle.interval.specs.declared.Span.{Span}
use Rattle.interval.specs.Shape.{interval_of}
use Rattle.expression.specs.Evaluation.{regs_of}
use Rattle.reader.specs.Index.{no_entry}
use Rattle.reader.specs.Facts.{thread_in}
use Rattle.state.specs.declared.State.{State}
use Rattle.state.specs.Access.{thread_at}
use Rattle.state.specs.Shape.{owners_of, sizes_of}
use Rattle.state.proofs.Shape.{sizes-threads, sizes-regs}
use Rattle.event.specs.Fetch.{OfProgram}
use Rattle.event.proofs.fetch.Asks.{of-program}
use Rattle.recorded.specs.Follow.{start_value, start_values, at_start, start_threads, start_replay}
use Rattle.record.specs.Known.{number_of, values_of}
use Rattle.record.specs.Replay.{thread_of, threads_of, state_of, replay_of}
use Rattle.record.specs.Sheet.{program_of, sizes_in, IsReady}
use Rattle.record.specs.Start.{StartsFrom}
use Rattle.record.specs.declared.replay.RunThread.{RunThread}
use Rattle.record.specs.declared.sheet.Sheet.{Sheet}

-- ---- a list with one more of its elements written

pub view-more : {A B : Type 0} (f : A → B) (k : ℕ) (l : List A) (x : A) → k < length l → take (suc k) (map f (set l k x)) ≡ take k (map f l) ++ (f x ∷ [])
view-more f k [] x h = absurd (not-suc-le-zero h)
view-more f zero (a ∷ l) x h = refl
view-more {A} {B} f (suc k) (a ∷ l) x h = ap (λ (r : List B). f a ∷ r) (view-more f k l x (le_of_suc-le-suc h))

-- ---- values one behind the other

values-more : (k : ℕ) (l : List Val) (w : Val) → k < length l → values_of (k + 1) (set l k w) ≡ values_of k l ++ (w.0 ∷ [])
unfolding values_of
values-more k l w h = rw (add-one) (view-more number_of k l w h)

-- from ranges that were read up to number k, at a place, with the values of those
module _ (ranges : List Span) (r : Bytes) where
  abbrev intervals : List Interval
  intervals = map interval_of ranges

  abbrev pub values_from : ℕ → List Val → ℕ → Got (List ℤ)
  values_from k l at = start_values (drop k intervals) (values_of k l) r at

  pub values-start : (l : List Val) (at : ℕ) → start_values intervals [] r at ≡ values_from 0 l at
  unfolding values_of
  values-start l at = refl

  pub values-end : (k : ℕ) (l : List Val) (at : ℕ) → length ranges ≤ k → values_from k l at ≡ got (values_of k l) at
  unfolding start_values
  values-end k l at h =
      let past : length intervals ≤ k = omega (arith, length-map ranges interval_of) in
      rw (drop_of_length-le intervals past)

  module _ (k : ℕ) (l : List Val) (at : ℕ) (d : Span) (b : k < length ranges) where
    opened : values_from k l at ≡ and_then (start_value (interval_of (get_or ranges k d)) r at) (λ z q. start_values (drop (suc k) intervals) (values_of k l ++ (z ∷ [])) r q)
    unfolding start_values
    opened = rw (drop-cons intervals k zero_interval (omega (arith, length-map ranges interval_of)), get_or-map interval_of ranges k d zero_interval b)

    pub one-refused : {f : R.Refusal} {p : ℕ} → bad f p ≡ start_value (interval_of (get_or ranges k d)) r at → bad f p ≡ values_from k l at
    unfolding and_then
    one-refused e = sym (opened ∙ rw (sym e))

    pub one_more : (w : Val) (q : ℕ) → k < length l → got w.0 q ≡ start_value (interval_of (get_or ranges k d)) r at → values_from k l at ≡ values_from (k + 1) (set l k w) q
    unfolding and_then
    one_more w q h e =
        let next : suc k ≡ k + 1 = omega arith in
        opened ∙ rw (sym e) (
        ap (λ (zs : List ℤ). start_values (drop (suc k) intervals) zs r q) (sym (values-more k l w h))
        ∙ ap (λ (i : ℕ). start_values (drop i intervals) (values_of (k + 1) (set l k w)) r q) next)

-- ---- the spans of so many registers or variables

pub part-is : (n : ℕ) (l : List Span) (is : List Interval) → n ≡ length is → regs_of (length is) l ≡ is → map interval_of (take n l) ≡ is
unfolding regs_of
part-is n l is q e = sym (take-map interval_of n l) ∙ ap (λ (m : ℕ). take m (map interval_of l)) q ∙ e

pub part-long : (ranges : List Span) (is : List Interval) → map interval_of ranges ≡ is → length ranges ≡ length is
part-long ranges is e = sym (length-map ranges interval_of) ∙ ap length e

module _ (s : Sheet) (ready : IsReady s) (first : State) (w : StartsFrom (program_of s) first) where
  -- of the variables
  pub vars-are : map interval_of (take s.variables first.vars) ≡ (program_of s).vars
  vars-are = part-is s.variables first.vars (program_of s).vars ready.counted w.vars

  -- of thread t, where the code counts n registers
  module _ (t : ℕ) (there : t < length (program_of s).threads) (n : ℕ) (q : n ≡ (get_or s.plan.entries t no_entry).registers) where
    registers : OfProgram (program_of s) t (get_or s.plan.entries t no_entry).registers
    registers = of-program s.bytes.now (program_of s) s.plan s.places.now ready.planned t there

    pub regs-few : n ≤ most_registers
    regs-few = let f = registers.regs_few in omega arith

    pub regs-are : map interval_of (take n (thread_at first t).regs) ≡ (thread_in (program_of s) t).regs
    regs-are = part-is n (thread_at first t).regs (thread_in (program_of s) t).regs (q ∙ registers.registers) (w.regs t there)

    pub regs-short : length (take n (thread_at first t).regs) ≤ most_registers
    regs-short = let f = regs-few in omega (arith, part-long _ _ regs-are, q, registers.registers)

-- ---- threads one behind the other

threads_more : (ns : List ℕ) (xs : List RunThread) (t : ℕ) (th : RunThread) → t < length ns → t < length xs
    → threads_of (take (suc t) ns) (set xs t th) ≡ threads_of (take t ns) xs ++ (thread_of (get_or ns t 0) th ∷ [])
unfolding threads_of
threads_more [] xs t th h k = absurd (not-suc-le-zero h)
threads_more (n ∷ ns) [] t th h k = absurd (not-suc-le-zero k)
threads_more (n ∷ ns) (x ∷ xs) zero th h k = refl
threads_more (n ∷ ns) (x ∷ xs) (suc t) th h k = ap (λ (l : List Run.RunThread). thread_of n x ∷ l) (threads_more ns xs t th (le_of_suc-le-suc h) (le_of_suc-le-suc k))

module _ (g : Program) (r : Bytes) where
  abbrev ns : List ℕ
  ns = (sizes_of g).regs

  abbrev pub threads_from : ℕ → List RunThread → ℕ → Got (List Run.RunThread)
  threads_from t l at = start_threads (drop t g.threads) (threads_of (take t ns) l) r at

  pub threads_start : (l : List RunThread) (at : ℕ) → start_threads g.threads [] r at ≡ threads_from 0 l at
  unfolding threads_of
  threads_start l at = refl

  pub threads_end : (t : ℕ) (l : List RunThread) (at : ℕ) → length g.threads ≤ t → threads_from t l at ≡ got (threads_of ns l) at
  unfolding start_threads
  threads_end t l at h =
      let e = sizes-threads g in
      let past : length ns ≤ t = omega arith in
      rw (drop_of_length-le g.threads h, take_all t ns past)

  module _ (t : ℕ) (l : List RunThread) (at : ℕ) (b : t < length g.threads) (ranges : List Span) (e : map interval_of ranges ≡ (thread_in g t).regs) where
    opened-thread : threads_from t l at ≡ and_then (start_values (map interval_of ranges) [] r at) (λ zs q. start_threads (drop (suc t) g.threads) (threads_of (take t ns) l ++ (at_start zs ∷ [])) r q)
    unfolding start_threads
    opened-thread = rw (drop-cons g.threads t no_thread b, e)

    pub thread-refused : {f : R.Refusal} {q : ℕ} → bad f q ≡ start_values (map interval_of ranges) [] r at → bad f q ≡ threads_from t l at
    unfolding and_then
    thread-refused k = sym (opened-thread ∙ rw (sym k))

    pub thread-more : (vs : List Val) (q : ℕ) → t < length l → got (values_of (length ranges) vs) q ≡ start_values (map interval_of ranges) [] r at
        → threads_from t l at ≡ threads_from (t + 1) (set l t (record { at = 0; clock = record { 0 = 0 }; regs = vs })) q
    unfolding and_then
    thread-more vs q h k =
        let next : suc t ≡ t + 1 = omega arith in
        let th : RunThread = record { at = 0; clock = record { 0 = 0 }; regs = vs } in
        let s : threads_of (take t ns) l ++ (at_start (values_of (length ranges) vs) ∷ []) ≡ threads_of (take (suc t) ns) (set l t th) =
        ap (λ (m : ℕ). threads_of (take t ns) l ++ (at_start (values_of m vs) ∷ [])) (part-long ranges (thread_in g t).regs e ∙ sym (sizes-regs g t)) ∙ sym (threads_more ns l t th (let z = sizes-threads g in omega arith) h) in
        opened-thread ∙ rw (sym k) (
        ap (λ (xs : List Run.RunThread). start_threads (drop (suc t) g.threads) xs r q) s
        ∙ ap (λ (i : ℕ). threads_from i (set l t th) q) next)

none_owned : (n m : ℕ) → n ≤ m → owners_of n (replicate m 0) ≡ replicate n none
unfolding owners_of
none_owned zero m h = refl
none_owned (suc n) zero h = absurd (not-suc-le-zero h)
none_owned (suc n) (suc m) h = ap (λ (r : List Owner). none ∷ r) (none_owned n m (le_of_suc-le-suc h))

-- ---- both

module _ (s : Sheet) (ready : IsReady s) (first : State) (w : StartsFrom (program_of s) first) (r : Bytes) where
  abbrev ranges : List Span
  ranges = take s.variables first.vars

  same : start_values (map interval_of ranges) [] r 0 ≡ start_values (program_of s).vars [] r 0
  same = ap (λ (is : List Interval). start_values is [] r 0) (vars-are s ready first w)

  pub vars-refused : {f : R.Refusal} {p : ℕ} → bad f p ≡ start_values (map interval_of ranges) [] r 0 → bad f p ≡ start_replay (program_of s) r
  unfolding start_replay and_then
  vars-refused e = rw (sym (e ∙ same))

  module _ (vs : List Val) (at : ℕ) (e : got (values_of (length ranges) vs) at ≡ start_values (map interval_of ranges) [] r 0) where
    pub threads-refused : {f : R.Refusal} {p : ℕ} → bad f p ≡ start_threads (program_of s).threads [] r at → bad f p ≡ start_replay (program_of s) r
    unfolding start_replay and_then
    threads-refused h = rw (sym (e ∙ same), sym h)

    pub started : (ts : List RunThread) (q : ℕ) → got (threads_of (sizes_in s).regs ts) q ≡ start_threads (program_of s).threads [] r at
        → got (replay_of (sizes_in s) (record { threads = ts; vars = vs; owners = replicate most_locks 0; tick = record { 0 = 0 } })) q ≡ start_replay (program_of s) r
    unfolding start_replay and_then state_of sizes_of
    started ts q h =
        let n : length ranges ≡ length (program_of s).vars = part-long ranges (program_of s).vars (vars-are s ready first w) in
        rw (sym (e ∙ same), sym h, n, none_owned (program_of s).locks most_locks ready.planned.facts.locks_few)
