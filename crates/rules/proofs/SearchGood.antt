-- Where a search finds a window, every state on its stack is good: each run from a state in it goes on without a fault until
-- it finishes in the window. By induction over the budget; so the start is good, and some run reaches the window.
use Rattle.std.specs.Prelude.{if◌then◌else◌}
use mathlib.Core.Path.{◌≡◌, refl, subst}
use mathlib.Core.Logic.{◌⊎◌, inl, inr}
use mathlib.Core.Bool.{Bool, true, false}
use mathlib.Core.List.{List, [], ◌∷◌, ◌++◌, map}
use mathlib.Core.Option.{none}
use Prim.Native.Nat.{ℕ, zero, suc, ◌+◌, ◌≤◌}
use native.Mathlib.Nat.{le_refl}
use native.Mathlib.Omega.{arith}
use lib.Dec.{T, leb}
use lib.IntN.{ℤ}
use lib.ListN.{length, replicate}
use Rattle.rules.specs.Base.{Each, nil, ◌&◌}
use Rattle.rules.specs.Refusal.{Refusal, Result, value, fault}
use Rattle.rules.specs.Refusal.{out_of_room}
use Rattle.rules.specs.Interval.{Interval}
use Rattle.rules.specs.Program.{Thread, Program}
use Rattle.rules.specs.Run.{RunThread, RunState, CanGoOn, finished, greatest_clock, AllIn, no_values, one_value, ThreadsStart, no_more, one_more, Starts}
use Rattle.rules.specs.Search.{State, Turn, refused, ended, follow, turn, Window, unseen, seen, widen, Step, stop, go_on, after_turn, search_step, End, fails, finds, resume, search, start, search_from}
use Rattle.rules.specs.Demands.{IsSeen, WindowFound}
use Rattle.rules.proofs.Base.{each_left, each_right, both_of_lem}
use Rattle.rules.proofs.Interval.{Ordered, low-in}
use Rattle.rules.proofs.Format.{ThreadSays, ProgramSays, program-says}
use Rattle.rules.proofs.Event.{Ends, event-ends, acted}
use Rattle.rules.proofs.Progress.{Ready, finished-or-goes-on, event-advances, start-ready}
use Rattle.rules.proofs.Cover.{ThreadsIn, no_threads, one_thread, In, Covers}
use Rattle.rules.proofs.Turn.{AtEnd, GoesOn, TurnSays, turn-says}

-- ---- windows

-- a tick in a window
abbrev pub Inside : Window → ℕ → Type 0
Inside unseen e = ⊥
Inside (seen a b) e = (a ≤ e) × (e ≤ b)

-- a window inside another
abbrev pub Grows : Window → Window → Type 0
Grows w w' = (e : ℕ) → Inside w e → Inside w' e

widen-grows : (w : Window) (a b : ℕ) → Grows w (widen w a b)
unfolding widen
widen-grows unseen a b e h = absurd h
widen-grows (seen c d) a b e h = (omega arith, omega arith)

widen-holds : (w : Window) (a b e : ℕ) → a ≤ e → e ≤ b → Inside (widen w a b) e
unfolding widen
widen-holds unseen a b e h k = (h, k)
widen-holds (seen c d) a b e h k = (omega arith, omega arith)

-- ---- good states of a run: every event has a result, lies within the limit and leaves a good state; a finish lies in the window

pub data Good (g : Program) (w : Window) : RunState → Type 0 where
  good : (s : RunState) → (T (finished g s) → Inside w (greatest_clock s.threads))
      → ((t e : ℕ) → Ends g s t e → e ≤ g.header.limit)
      → ((t e : ℕ) (r : Refusal) → Ends g s t e → acted g s t e ≡ fault r → ⊥)
      → ((t e : ℕ) (s' : RunState) → Ends g s t e → acted g s t e ≡ value s' → Good g w s')
      → Good g w s

abbrev pub AllGood : Program → Window → State → Type 0
AllGood g w x = (s : RunState) → In g s x → Good g w s

end-good : (g : Program) (w : Window) (x : State) (a b : ℕ) → turn g x ≡ ended a b → ((e : ℕ) → a ≤ e → e ≤ b → Inside w e) → AllGood g w x
end-good g w x a b q h s i =
    let k : AtEnd g s a b = subst (TurnSays g s) q (turn-says g s x i) in
    good s (λ f. h (greatest_clock s.threads) k.above k.below) (λ t e v. absurd (k.no_event t e v)) (λ t e r v z. k.no_event t e v) (λ t e s' v z. absurd (k.no_event t e v))

turn-good : (g : Program) (w : Window) (x : State) (new : List State) → turn g x ≡ follow new → Each (AllGood g w) new → AllGood g w x
turn-good g w x new q h s i =
    let k : GoesOn g s new = subst (TurnSays g s) q (turn-says g s x i) in
    good s (λ f. absurd (k.unfinished f)) k.in_limit
    (λ t e r v z. subst (λ (o : Result RunState). Covers g o new) z (k.covered t e v))
    (λ t e s' v z. let c = both_of_lem h (subst (λ (o : Result RunState). Covers g o new) z (k.covered t e v)) in c.1.0 s' c.1.1)

-- ---- the search: where it finds a window, every state on its stack is good

-- what a step that goes on says of its turn
data Went (xs : List State) (w : Window) : Turn → List State → Window → Type 0 where
  went_end : (a b : ℕ) → Went xs w (ended a b) xs (widen w a b)
  went_on : (new : List State) → Went xs w (follow new) (new ++ xs) w

stops-not : {r : Refusal} {p : ℕ} {ys : List State} {w : Window} → stop r p ≡ go_on ys w → ⊥
stops-not e = let z : ◌≡◌ {A = ℕ} 0 1 = cc in omega arith

went : (slots : ℕ) (xs : List State) (w : Window) (t : Turn) (ys : List State) (v : Window) → after_turn slots xs w t ≡ go_on ys v → Went xs w t ys v
unfolding after_turn
went slots xs w (refused r p) ys v e = absurd (stops-not e)
went slots xs w (ended a b) ys v e =
    let p : xs ≡ ys = cc in
    let q : widen w a b ≡ v = cc in
    subst (λ (zs : List State). Went xs w (ended a b) zs v) p (subst (λ (u : Window). Went xs w (ended a b) xs u) q (went_end a b))
went slots xs w (follow new) ys v e = by (leb (length xs + length new) slots) e
  where
    by : (b : Bool) → (if b then go_on (new ++ xs) w else stop out_of_room 0) ≡ go_on ys v → Went xs w (follow new) ys v
    by true e =
        let p : new ++ xs ≡ ys = cc in
        let q : w ≡ v = cc in
        subst (λ (zs : List State). Went xs w (follow new) zs v) p (subst (λ (u : Window). Went xs w (follow new) (new ++ xs) u) q (went_on new))
    by false e = absurd (stops-not e)

fails-not : {r : Refusal} {p n m : ℕ} {w : Window} → fails r p n ≡ finds m w → ⊥
fails-not e = let z : ◌≡◌ {A = ℕ} 0 1 = cc in omega arith

-- of a search from the stack xs and the window w
abbrev Claim : Program → List State → Window → End → Type 0
Claim g xs w r = (m : ℕ) (v : Window) → r ≡ finds m v → Each (AllGood g v) xs × Grows w v

step-claim : (g : Program) (slots n : ℕ) (k : List State → Window → End) → ((ys : List State) (w : Window) → Claim g ys w (k ys w))
    → (x : State) (xs : List State) (w : Window) (t : Step) → after_turn slots xs w (turn g x) ≡ t → Claim g (x ∷ xs) w (resume n k t)
unfolding resume
step-claim g slots n k ih x xs w (stop r p) eq m v e = absurd (fails-not e)
step-claim g slots n k ih x xs w (go_on ys u) eq m v e = by refl (went slots xs w (turn g x) ys u eq) (ih ys u m v e)
  where
    by : {t : Turn} {zs : List State} {u : Window} → turn g x ≡ t → Went xs w t zs u → Each (AllGood g v) zs × Grows u v → Each (AllGood g v) (x ∷ xs) × Grows w v
    by q (went_end a b) h = (end-good g v x a b q (λ e l r. h.1 e (widen-holds w a b e l r)) & h.0, λ e l. h.1 e (widen-grows w a b e l))
    by q (went_on new) h = (turn-good g v x new q (each_left new xs h.0) & each_right new xs h.0, h.1)

same-window : (g : Program) (w v : Window) (n m : ℕ) → finds n w ≡ finds m v → Each (AllGood g v) [] × Grows w v
same-window g w v n m e = (nil, let p : w ≡ v = cc in λ t h. subst (λ (u : Window). Inside u t) p h)

pub search-good : (left : ℕ) (g : Program) (slots : ℕ) (xs : List State) (w : Window) (n : ℕ) → Claim g xs w (search left g slots xs w n)
unfolding search search_step
search-good zero g slots [] w n m v e = same-window g w v n m e
search-good zero g slots (x ∷ xs) w n m v e = absurd (fails-not e)
search-good (suc left) g slots [] w n m v e = same-window g w v n m e
search-good (suc left) g slots (x ∷ xs) w n m v e =
    step-claim g slots (suc n) (λ ys w'. search left g slots ys w' (suc n)) (λ ys w'. search-good left g slots ys w' (suc n)) x xs w (search_step g slots x xs w) refl m v e

-- ---- the start

starting : {ts : List Thread} {xs : List RunThread} → ThreadsStart ts xs → ThreadsIn ts xs (map (λ (t : Thread). record { at = 0; low = 0; high = 0; regs = t.regs }) ts)
starting no_more = no_threads
starting (one_more h r) = one_thread (record { same_at = refl; from_low = le_refl 0; to_high = le_refl 0; regs_in = h }) (starting r)

start-in : (g : Program) (s : RunState) → Starts g s → In g s (start g)
unfolding start
start-in g s h = record { threads_in = starting h.threads_start; vars_in = h.vars_start; same_owners = h.owners_start }

pub start-good : (g : Program) (slots m : ℕ) (w : Window) → search_from g slots ≡ finds m w → (s : RunState) → Starts g s → Good g w s
unfolding search_from
start-good g slots m w q s h = first (search-good g.header.budget g slots (start g ∷ []) unseen 0 m w q).0 s (start-in g s h)
  where
    first : {x : State} {xs : List State} → Each (AllGood g w) (x ∷ xs) → AllGood g w x
    first (p & ps) = p

-- there is a start: the low end of every range
lows : (is : List Interval) → List ℤ
lows [] = []
lows (i ∷ is) = i.low ∷ lows is

lows-in : {is : List Interval} → Each Ordered is → AllIn (lows is) is
unfolding lows
lows-in nil = no_values
lows-in (◌&◌ {x = i} o r) = one_value (low-in i o) (lows-in r)

first-threads : List Thread → List RunThread
first-threads [] = []
first-threads (t ∷ ts) = record { at = 0; clock = 0; regs = lows t.regs } ∷ first-threads ts

first-threads-start : {ts : List Thread} → Each ThreadSays ts → ThreadsStart ts (first-threads ts)
unfolding first-threads
first-threads-start nil = no_more
first-threads-start (h & r) = one_more (lows-in h.regs_ordered) (first-threads-start r)

pub low-start : Program → RunState
low-start g = record { threads = first-threads g.threads; vars = lows g.vars; owners = replicate g.locks none }

pub low-start-starts : (g : Program) → ProgramSays g → Starts g (low-start g)
unfolding low-start
low-start-starts g h = record { threads_start = first-threads-start h.threads_say; vars_start = lows-in h.vars_ordered; owners_start = refl }

-- ---- "a search that ends without a refusal has found a window": some run goes on until it finishes, in the window

module _ (g : Program) (says : ProgramSays g) (w : Window) where
  found_from : (s : RunState) → Good g w s → Ready g s → (e : ℕ) × Inside w e
  found_from x (good s f l z n) r = by (finished-or-goes-on g says.threads_say s r) (λ t e s' v q r'. found_from s' (n t e s' v q) r')
    where
      on : (t e : ℕ) → Ends g s t e → ((t e : ℕ) (s' : RunState) → Ends g s t e → acted g s t e ≡ value s' → Ready g s' → (e : ℕ) × Inside w e)
          → (o : Result RunState) → acted g s t e ≡ o → (e : ℕ) × Inside w e
      on t e v ih (fault x) q = absurd (z t e x v q)
      on t e v ih (value s') q = ih t e s' v q (event-advances g says.threads_say s s' t e r v (l t e v) q).ready

      by : T (finished g s) ⊎ CanGoOn g s → ((t e : ℕ) (s' : RunState) → Ends g s t e → acted g s t e ≡ value s' → Ready g s' → (e : ℕ) × Inside w e) → (e : ℕ) × Inside w e
      by (inl h) ih = (greatest_clock s.threads, f h)
      by (inr v) ih = on v.0 v.1 (event-ends g s v.0 v.1 v.2) ih (acted g s v.0 v.1) refl

seen_of : (w : Window) (e : ℕ) → Inside w e → IsSeen w
seen_of unseen e h = absurd h
seen_of (seen a b) e h = (a, b, refl)

pub window-found : WindowFound
window-found sheet g end q slots m w h =
    let says = program-says sheet g end q in
    let starts = low-start-starts g says in
    let found = found_from g says w (low-start g) (start-good g slots m w h (low-start g) starts) (start-ready g (low-start g) starts) in
    seen_of w found.0 found.1
