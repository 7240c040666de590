-- Enough budget. Each event takes the low of a clock up, and none passes the limit: so a state whose lows may still rise by k in all
-- costs a search at most the sum of the powers of 2n to power k, n its threads. A stack costs the sum over its states, and each step
-- lowers that by one at least.
use mathlib.Core.Path.{◌≡◌, refl, sym, ap, ◌∙◌, subst}
use mathlib.Core.Bool.{◌&&◌}
use mathlib.Core.List.{List, [], ◌∷◌, ◌++◌, map}
use Prim.Native.Nat.{ℕ, zero, suc, ◌+◌, ◌-◌, ◌*◌, ◌/◌, ◌≤◌, zero-le}
use native.Mathlib.Nat.{not-suc-le-zero, le_of_suc-le-suc, suc-mul, mul-le-mul_right}
use native.Mathlib.Omega.{arith}
use lib.Dec.{leb, eqb}
use lib.ListN.{length, set, length-set, length-map}
use Rattle.rules.specs.Base.{Each, nil, ◌&◌}
use Rattle.rules.specs.Refusal.{Refusal, number, out_of_steps, out_of_room, label_broken}
use Rattle.rules.specs.Constants.{numbers_per_state}
use Rattle.rules.specs.Program.{Thread, Program}
use Rattle.rules.specs.Search.{ThreadState, State, Turn, refused, ended, follow, turn, Window, unseen, seen, widen, stop, go_on, after_turn, search_step, End, fails, finds, resume, search, start, search_from, five, judge, answer_by, answer_with}
use Rattle.rules.specs.Budget.{AnyBut, NotBy, rebudgeted, answer_of, powers, enough, EnoughNeverMeets, SearchNeverMeets}
use Rattle.rules.proofs.Base.{if-ind, each_map, each_both, each_set, each_at}
use Rattle.rules.proofs.Total.{total, total-set, total-bound}
use Rattle.rules.proofs.Powers.{powers-step, powers-up, powers-some}
use Rattle.rules.proofs.Format.{ThreadSays, program-says}
use Rattle.rules.proofs.Given.{zero_divisor, off_the_scale, OfTurn, unreadable, is_stuck, past_limit_lem, GivenTurn, turn-given}
use Rattle.rules.proofs.Moves.{no_thread_state, Follows, FewTurn, turn-follows}

abbrev low_in : ThreadState → ℕ
low_in p = p.low

-- a turn is not refused for want of steps
turn-not-steps : (r : Refusal) (p : ℕ) → OfTurn r p → number r ≡ number out_of_steps → ⊥
turn-not-steps r p (unreadable zero_divisor q) e = omega arith
turn-not-steps r p (unreadable off_the_scale q) e = omega arith
turn-not-steps r p is_stuck e = omega arith
turn-not-steps r p past_limit_lem e = omega arith

module _ (g : Program) (says : Each ThreadSays g.threads) where
  -- ---- states whose lows are within the limit

  abbrev InLimit : ThreadState → Type 0
  InLimit p = p.low ≤ g.header.limit

  record Ranged (x : State) : Type 0 where
    pub size : length x.threads ≡ length g.threads
    pub lows : Each InLimit x.threads

  -- how far the lows may rise in all, from the start and from a state
  abbrev most : ℕ
  most = length g.threads * g.header.limit

  abbrev left-of : State → ℕ
  left-of x = most - total low_in x.threads

  total-most : (x : State) → Ranged x → total low_in x.threads ≤ most
  total-most x r =
      subst (λ (n : ℕ). total low_in x.threads ≤ n * g.header.limit) r.size
      (total-bound low_in no_thread_state g.header.limit x.threads (each_at x.threads no_thread_state zero-le r.lows))

  record LessLeft (x y : State) : Type 0 where
    pub ranged : Ranged y
    pub less : suc (left-of y) ≤ left-of x

  follows-less : (x y : State) → Ranged x → Follows g x y → LessLeft x y
  follows-less x y r f =
      let ranged : Ranged y = record {
        size = ap length f.is_set ∙ length-set x.threads f.thread f.mover ∙ r.size;
        lows = subst (Each InLimit) (sym f.is_set) (each_set x.threads f.thread f.mover r.lows f.in_limit);
      } in
      let a = total-set low_in no_thread_state x.threads f.thread f.mover f.there in
      let b : total low_in y.threads ≡ total low_in (set x.threads f.thread f.mover) = ap (total low_in) f.is_set in
      let c = f.later in
      let d = total-most y ranged in
      record { ranged = ranged; less = omega arith }

  -- ---- what a stack costs

  -- at most so many new states in a turn
  abbrev ways : ℕ
  ways = 2 * length g.threads

  cost : List State → ℕ
  cost [] = 0
  cost (x ∷ xs) = powers ways (left-of x) + cost xs

  cost-both : (xs ys : List State) → cost (xs ++ ys) ≡ cost xs + cost ys
  unfolding cost
  cost-both [] ys = omega arith
  cost-both (x ∷ xs) ys = omega (arith, cost-both xs ys)

  cost-of-new : (k : ℕ) (ys : List State) → Each (λ (y : State). left-of y ≤ k) ys → cost ys ≤ length ys * powers ways k
  unfolding cost
  cost-of-new k [] nil = zero-le
  cost-of-new k (y ∷ ys) (h & hs) =
      let a = powers-up ways (left-of y) k h in
      let b = cost-of-new k ys hs in
      let c = suc-mul (length ys) (powers ways k) in
      omega arith

  -- the new states of a turn cost less than the state taken
  new-below : (k : ℕ) (ys : List State) → Each (λ (y : State). suc (left-of y) ≤ k) ys → length ys ≤ ways → suc (cost ys) ≤ powers ways k
  new-below zero [] nil l = unfold cost in powers-some ways 0
  new-below zero (y ∷ ys) (h & hs) l = absurd (not-suc-le-zero h)
  new-below (suc k) ys h l =
      let a = cost-of-new k ys (each_map (λ y i. le_of_suc-le-suc i) h) in
      let b : length ys * powers ways k ≤ ways * powers ways k = mul-le-mul_right (powers ways k) l in
      let c = powers-step ways k in
      omega arith

  -- ---- a budget of a stack's cost is enough

  module _ (slots : ℕ) where
    turn-enough : (left n : ℕ) → ((ys : List State) (w : Window) → Each Ranged ys → cost ys ≤ left → NotBy out_of_steps (search left g slots ys w n))
        → (x : State) (xs : List State) (w : Window) → Each Ranged (x ∷ xs) → cost (x ∷ xs) ≤ suc left
        → (t : Turn) → turn g x ≡ t → NotBy out_of_steps (resume n (λ ys v. search left g slots ys v n) (after_turn slots xs w t))
    unfolding after_turn resume cost
    turn-enough left n ih x xs w rs c (refused r p) q = turn-not-steps r p (subst GivenTurn q (turn-given g x))
    turn-enough left n ih x xs w (r & rs) c (ended a b) q = ih xs (widen w a b) rs (let s = powers-some ways (left-of x) in omega arith)
    turn-enough left n ih x xs w (r & rs) c (follow new) q =
        let f = subst (FewTurn (Follows g x) ways) q (turn-follows g x says) in
        let less : Each (LessLeft x) new = each_map (λ y k. follows-less x y r k) f.0 in
        let below : suc (cost new) ≤ powers ways (left-of x) = new-below (left-of x) new (each_map (λ y k. k.less) less) f.1 in
        if-ind (leb (length xs + length new) slots) (go_on (new ++ xs) w) (stop out_of_room 0) (λ t. NotBy out_of_steps (resume n (λ ys v. search left g slots ys v n) t))
        (λ _. ih (new ++ xs) w (each_both new xs (each_map (λ y k. k.ranged) less) rs) (let s = cost-both new xs in omega arith))
        (λ _ e. omega arith)

    stack-enough : (left : ℕ) (xs : List State) (w : Window) (n : ℕ) → Each Ranged xs → cost xs ≤ left → NotBy out_of_steps (search left g slots xs w n)
    unfolding search search_step
    stack-enough zero [] w n rs c = tt
    stack-enough zero (x ∷ xs) w n rs c = absurd (let s = powers-some ways (left-of x) in unfold cost in omega arith)
    stack-enough (suc left) [] w n rs c = tt
    stack-enough (suc left) (x ∷ xs) w n rs c = turn-enough left (suc n) (λ ys v k d. stack-enough left ys v (suc n) k d) x xs w rs c (turn g x) refl

  -- ---- the start

  start-ranged : Ranged (start g)
  unfolding start
  start-ranged = record { size = length-map g.threads first; lows = lows g.threads }
    where
      first : Thread → ThreadState
      first t = record { at = 0; low = 0; high = 0; regs = t.regs }

      lows : (ts : List Thread) → Each InLimit (map first ts)
      lows [] = nil
      lows (t ∷ ts) = zero-le & lows ts

  start-enough : (slots b : ℕ) → enough g ≤ b → NotBy out_of_steps (search b g slots (start g ∷ []) unseen 0)
  start-enough slots b h =
      stack-enough slots b (start g ∷ []) unseen 0 (start-ranged & nil)
      (let a : powers ways (left-of (start g)) ≤ powers ways most = powers-up ways (left-of (start g)) most (omega arith) in unfold cost in omega arith)

pub search_never_meets : SearchNeverMeets
search_never_meets s g end q slots b h = start-enough g (program-says s g end q).threads_say slots b h

-- ---- the five numbers

judged : (low high : ℕ) (e : End) → NotBy out_of_steps e → AnyBut out_of_steps (judge low high e)
unfolding judge
judged low high (fails r p n) h = h
judged low high (finds n unseen) h = λ e. omega arith
judged low high (finds n (seen a b)) h =
    if-ind (leb low a && leb b high) (five 0 0 n a b) (five (number label_broken) 0 n a b) (AnyBut out_of_steps) (λ _ e. omega arith) (λ _ e. omega arith)

pub enough_never_meets : EnoughNeverMeets
unfolding answer_of answer_with answer_by search_from
enough_never_meets s g end q n b h =
    let slots = n / numbers_per_state in
    let low = g.header.label_low in
    let high = g.header.label_high in
    if-ind (eqb slots 0) (five (number out_of_room) 0 0 0 0) (judge low high (search_from (rebudgeted b g) slots)) (AnyBut out_of_steps)
    (λ _ e. omega arith)
    (λ _. judged low high (search_from (rebudgeted b g) slots) (start-enough (rebudgeted b g) (program-says s g end q).threads_say slots b h))
