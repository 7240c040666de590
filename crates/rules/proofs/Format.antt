-- What a sheet that reads is known to say: every statement's times are in order and a live statement takes time, and every
-- range is low to high. Laws over the readers' combinators carry a property from each part to the whole.
use mathlib.Core.Path.{◌≡◌, subst}
use mathlib.Core.Bool.{Bool, true, false, not, ◌&&◌}
use mathlib.Core.List.{List, [], ◌∷◌, ◌++◌}
use Prim.Native.Nat.{ℕ, zero, suc, ◌+◌, ◌≤◌}
use native.Mathlib.Nat.{le_refl}
use native.Mathlib.Omega.{arith}
use lib.Dec.{T, leb, eqb, leb→le, eqb→eq}
use lib.Signed.{le_z, le_z_yes}
use lib.ListN.{length, get_or}
use Rattle.rules.specs.Base.{Each, nil}
use Rattle.rules.specs.Refusal.{Refusal, short, bad_length, off_range, no_such_name, no_halt, too_many, too_long}
use Rattle.rules.specs.Constants.{most_variables, most_registers, most_statements, most_threads}
use Rattle.rules.specs.Interval.{Interval, interval}
use Rattle.rules.specs.Program.{Action, halt, is_halt, Statement, Thread, Program, no_statement, no_thread}
use Rattle.rules.specs.Format.{Bytes, Got, bad, got, and_then, need, map_got, Here, wrong, more, done, on_here, byte, num16, int32, times_fit, read_action, has_body, Names, read_contents, read_statement, read_many, read_statements, statement_here, last_halts, targets_fit, target_fits, close, due, sized, read_range, variable_here, read_variables, read_registers, read_thread, thread_here, read_threads, read_header, read_locks, read_sheet}
use Rattle.rules.proofs.Base.{if-ind, and_left, and_right, not-both, each_snoc, each_at}
use Rattle.rules.proofs.Interval.{Ordered}

-- ---- a property of what is got

abbrev pub If : {A : Type 0} → (A → Type 0) → Got A → Type 0
If P (bad r p) = Unit {0}
If P (got a q) = P a

pub need-if : {A : Type 0} (P : A → Type 0) (b : Bool) (r : Refusal) (at : ℕ) (g : Got A) → (T b → If P g) → If P (need b r at g)
unfolding need
need-if P true r at g h = h tt
need-if P false r at g h = tt

pub then_if : {A B : Type 0} (Q : A → Type 0) (P : B → Type 0) (g : Got A) (f : A → ℕ → Got B) → If Q g → ((a : A) (q : ℕ) → Q a → If P (f a q)) → If P (and_then g f)
unfolding and_then
then_if Q P (bad r p) f h k = tt
then_if Q P (got a q) f h k = k a q h

pub then-any : {A B : Type 0} (P : B → Type 0) (g : Got A) (f : A → ℕ → Got B) → ((a : A) (q : ℕ) → If P (f a q)) → If P (and_then g f)
unfolding and_then
then-any P (bad r p) f k = tt
then-any P (got a q) f k = k a q

pub map-if : {A B : Type 0} (Q : A → Type 0) (P : B → Type 0) (f : A → B) (g : Got A) → If Q g → ((a : A) → Q a → P (f a)) → If P (map_got f g)
unfolding map_got
map-if Q P f (bad r p) h k = tt
map-if Q P f (got a q) h k = k a h

pub here-if : {A : Type 0} (P : A → Type 0) (at : ℕ) (h : Here) (k e : Got A) → If P k → If P e → If P (on_here at h k e)
unfolding on_here
here-if P at (wrong r) k e a b = tt
here-if P at more k e a b = a
here-if P at done k e a b = b

pub sized-if : {A : Type 0} (P : A → Type 0) (s : Bytes) (at n : ℕ) (ok : Bool) (a : A) → (T ok → P a) → If P (sized s at n ok a)
unfolding sized
sized-if P s at n ok a h = need-if P _ short at _ (λ _. need-if P _ bad_length at _ (λ _. need-if P ok off_range at _ h))

pub due-if : {A : Type 0} (P : A → Type 0) (tag : ℕ) (s : Bytes) (at : ℕ) (g : Got A) → If P g → If P (due tag s at g)
unfolding due
due-if P tag s at g h = need-if P _ short at _ (λ _. need-if P _ _ at g (λ _. h))

-- what holds of each one that is read holds of all
pub many-if : {A : Type 0} (P : A → Type 0) (here : ℕ → ℕ → Here) (one : ℕ → Got A) → ((p : ℕ) → If P (one p))
    → (k : ℕ) (xs : List A) (at : ℕ) → Each P xs → If (Each P) (read_many here one k xs at)
unfolding read_many
many-if P here one f zero xs at h = here-if (Each P) at (here (length xs) at) (bad too_many at) (got xs at) tt h
many-if P here one f (suc k) xs at h =
    here-if (Each P) at (here (length xs) at) (and_then (one at) (λ x q. read_many here one k (xs ++ x ∷ []) q)) (got xs at)
    (then_if P (Each P) (one at) (λ x q. read_many here one k (xs ++ x ∷ []) q) (f at)
    (λ x q p. many-if P here one f k (xs ++ x ∷ []) q (each_snoc xs x h p)))
    h

-- ---- closing changes nothing

pub last-if : {A : Type 0} (P : A → Type 0) (xs : List Statement) (g : Got A) → If P g → If P (last_halts xs g)
unfolding last_halts
last-if P [] g h = h
last-if P (x ∷ []) g h = need-if P (is_halt x.action) no_halt x.place g (λ _. h)
last-if P (x ∷ y ∷ ys) g h = last-if P (y ∷ ys) g h

pub targets-if : {A : Type 0} (P : A → Type 0) (n : ℕ) (xs : List Statement) (g : Got A) → If P g → If P (targets_fit n xs g)
unfolding targets_fit
targets-if P n [] g h = h
targets-if P n (x ∷ xs) g h = need-if P (target_fits n x.action) no_such_name x.place (targets_fit n xs g) (λ _. targets-if P n xs g h)

pub close-if : (P : List Statement → Type 0) (g : Got (List Statement)) → If P g → If P (close g)
unfolding close
close-if P (bad r p) h = tt
close-if P (got xs q) h = last-if P xs (targets_fit (length xs) xs (got xs q)) (targets-if P (length xs) xs (got xs q) h)

-- ---- ranges

pub range-ordered : (s : Bytes) (at : ℕ) → If Ordered (read_range s at)
unfolding read_range
range-ordered s at = sized-if Ordered s at 8 (le_z (int32 s (at + 3)) (int32 s (at + 7))) (interval (int32 s (at + 3)) (int32 s (at + 7))) le_z_yes

pub variables-ordered : (s : Bytes) (at : ℕ) → If (Each Ordered) (read_variables s at)
unfolding read_variables
variables-ordered s at = many-if Ordered (λ n p. variable_here s p) (λ p. read_range s p) (range-ordered s) most_variables [] at nil

pub registers-ordered : (k : ℕ) (rs : List Interval) (s : Bytes) (at : ℕ) → Each Ordered rs → If (Each Ordered) (read_registers k rs s at)
unfolding read_registers
registers-ordered zero rs s at h = h
registers-ordered (suc k) rs s at h =
    then_if Ordered (Each Ordered) (due 5 s at (read_range s at)) (λ i q. read_registers k (rs ++ i ∷ []) s q)
    (due-if Ordered 5 s at (read_range s at) (range-ordered s at))
    (λ i q o. registers-ordered k (rs ++ i ∷ []) s q (each_snoc rs i h o))

-- ---- times

-- least at most greatest; a statement that is not halt takes at least one tick
pub record Timed (x : Statement) : Type 0 where
  pub in_order : x.least ≤ x.greatest
  pub takes_time : T (not (is_halt x.action)) → 1 ≤ x.least

code-zero-halts : (c : ℕ) (names : Names) (s : Bytes) (at e p : ℕ) → T (eqb c 0) → If (λ (a : Action). T (is_halt a)) (read_action c names s at e p)
unfolding read_action is_halt
code-zero-halts c names s at e p t = if-ind (eqb c 0) (got halt e) _ (If (λ (a : Action). T (is_halt a))) (λ _. tt) (λ u. absurd (not-both (eqb c 0) u t))

pub times-in-order : (c least greatest : ℕ) → T (times_fit c least greatest) → least ≤ greatest
unfolding times_fit
times-in-order c least greatest = if-ind (eqb c 0) (eqb least 0 && eqb greatest 0) (leb 1 least && leb least greatest) (λ b. T b → least ≤ greatest)
    (λ _ t. let a : least ≡ 0 = eqb→eq least 0 (and_left (eqb least 0) (eqb greatest 0) t) in omega arith)
    (λ _ t. leb→le least greatest (and_right (leb 1 least) (leb least greatest) t))

times-positive : (c least greatest : ℕ) → T (not (eqb c 0)) → T (times_fit c least greatest) → 1 ≤ least
unfolding times_fit
times-positive c least greatest n = if-ind (eqb c 0) (eqb least 0 && eqb greatest 0) (leb 1 least && leb least greatest) (λ b. T b → 1 ≤ least)
    (λ z t. absurd (not-both (eqb c 0) n z)) (λ _ t. leb→le 1 least (and_left (leb 1 least) (leb least greatest) t))

-- what an action read under a code says of the times that fit the code
abbrev TakesTime : ℕ → Action → Type 0
TakesTime least a = T (not (is_halt a)) → 1 ≤ least

action-takes-time : (c : ℕ) (names : Names) (s : Bytes) (at e p least greatest : ℕ) → T (times_fit c least greatest)
    → If (TakesTime least) (read_action c names s at e p)
action-takes-time c names s at e p least greatest t = by (eqb c 0) (λ z. z) (λ z. z)
  where
    halted : (g : Got Action) → If (λ (a : Action). T (is_halt a)) g → If (TakesTime least) g
    halted (bad r q) h = tt
    halted (got a q) h = λ n. absurd (not-both (is_halt a) n h)

    any : (g : Got Action) → 1 ≤ least → If (TakesTime least) g
    any (bad r q) h = tt
    any (got a q) h = λ _. h

    by : (b : Bool) → (T b → T (eqb c 0)) → (T (not b) → T (not (eqb c 0))) → If (TakesTime least) (read_action c names s at e p)
    by true f g = halted (read_action c names s at e p) (code-zero-halts c names s at e p (f tt))
    by false f g = any (read_action c names s at e p) (times-positive c least greatest (g tt) t)

pub contents-timed : (names : Names) (s : Bytes) (at : ℕ) → If Timed (read_contents names s at)
unfolding read_contents
contents-timed names s at =
    let c = byte s (at + 7) in
    let least = num16 s (at + 3) in
    let greatest = num16 s (at + 5) in
    need-if Timed _ bad_length at _ (λ _. need-if Timed _ off_range at _ (λ _. need-if Timed _ bad_length at _ (λ _.
    need-if Timed (times_fit c least greatest) off_range at _ (λ t.
    map-if (TakesTime least) Timed _ (read_action c names s at (at + 3 + num16 s (at + 1)) (at + 8))
    (action-takes-time c names s at (at + 3 + num16 s (at + 1)) (at + 8) least greatest t)
    (λ a h. record { in_order = times-in-order c least greatest t; takes_time = h })))))

statements_timed : (names : Names) (s : Bytes) (at : ℕ) → If (Each Timed) (read_statements names s at)
unfolding read_statements read_statement
statements_timed names s at =
    many-if Timed (λ n p. statement_here n s p) (λ p. read_statement names s p)
    (λ p. need-if Timed (has_body s p) short p (read_contents names s p) (λ _. contents-timed names s p)) most_statements [] at nil

-- ---- threads and the whole

pub record ThreadSays (t : Thread) : Type 0 where
  pub regs_ordered : Each Ordered t.regs
  pub statements_timed : Each Timed t.statements

pub record ProgramSays (g : Program) : Type 0 where
  pub vars_ordered : Each Ordered g.vars
  pub threads_say : Each ThreadSays g.threads

thread-says : (vars locks : ℕ) (s : Bytes) (at : ℕ) → If ThreadSays (read_thread vars locks s at)
unfolding read_thread
thread-says vars locks s at =
    let n = byte s (at + 3) in
    let names : Names = record { regs = n; vars = vars; locks = locks } in
    then-any ThreadSays (sized s at 1 (leb n most_registers) n) _ (λ _ p.
    then_if (Each Ordered) ThreadSays (read_registers n [] s p) _ (registers-ordered n [] s p nil) (λ rs q o.
    then_if (Each Timed) ThreadSays (close (read_statements names s q)) _
    (close-if (Each Timed) (read_statements names s q) (statements_timed names s q))
    (λ xs r h. record { regs_ordered = o; statements_timed = h })))

threads_say : (vars locks : ℕ) (s : Bytes) (at : ℕ) → If (Each ThreadSays) (read_threads vars locks s at)
unfolding read_threads
threads_say vars locks s at =
    many-if ThreadSays (λ n p. thread_here s p) (λ p. read_thread vars locks s p) (λ p. thread-says vars locks s p) most_threads [] at nil

sheet-says : (s : Bytes) → If ProgramSays (read_sheet s)
unfolding read_sheet
sheet-says s =
    need-if ProgramSays _ too_long 0 _ (λ _.
    then-any ProgramSays (read_header s) _ (λ l p.
    then-any ProgramSays (read_locks s p) _ (λ k q.
    then_if (Each Ordered) ProgramSays (read_variables s q) _ (variables-ordered s q) (λ vs r o.
    then_if (Each ThreadSays) ProgramSays (read_threads (length vs) k s r) _ (threads_say (length vs) k s r)
    (λ ts e h. record { vars_ordered = o; threads_say = h })))))

pub program-says : (s : Bytes) (g : Program) (e : ℕ) → read_sheet s ≡ got g e → ProgramSays g
program-says s g e q = subst (If ProgramSays) q (sheet-says s)

-- ---- so of the statement that a thread and a number name

no-statement-timed : Timed no_statement
unfolding is_halt
no-statement-timed = record { in_order = le_refl 0; takes_time = λ t. absurd t }

no-thread-says : ThreadSays no_thread
no-thread-says = record { regs_ordered = nil; statements_timed = nil }

pub statement-timed : (ts : List Thread) → Each ThreadSays ts → (t k : ℕ) → Timed (get_or (get_or ts t no_thread).statements k no_statement)
statement-timed ts h t k = each_at (get_or ts t no_thread).statements no_statement no-statement-timed (each_at ts no_thread no-thread-says h t).statements_timed k
