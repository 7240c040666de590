-- No line has fewer `(` than what is printed of what it says.
use mathlib.Core.Path.{◌≡◌, refl, ◌∙◌}
use mathlib.Core.Bool.{Bool, true, false, ◌&&◌}
use mathlib.Core.List.{List, [], ◌∷◌, ◌++◌}
use Prim.Native.Nat.{ℕ, ◌≤◌}
use native.Mathlib.Omega.{arith}
use lib.Dec.{eqb}
use Rattle.rules.specs.Format.{Bytes}
use Rattle.rules.specs.Product.{bytes, decimal}
use Rattle.rules.specs.Interval.{Interval, interval}
use Rattle.rules.specs.Program.{Arith, Condition, Action, halt, skip, assign, branch, store, load, unlock, lock, is_halt}
use Rattle.rules.proofs.Base.{if-ind}
use Rattle.text.specs.Words.{Read, took, then_read, map_read, is_digit, number, signed, Word, word, keyword, name, line_end}
use Rattle.text.specs.Lines.{Line, locks_line, var_line, thread_line, reg_line, statement_line, range, word_only, assignment, jump, transfer, actions, action_here, timed, Due, locks_due, var_due, reg_due, statement_due, openings, takes_times, line_here, read_line}
use Rattle.text.proofs.LinesWithin.{Mean, no_words, one_word, Took, keyword-took}
use Rattle.printed.specs.Print.{print_value, print_arith, print_condition, print_range, print_times, print_action, print_line}
use Rattle.printed.specs.Claims.{opens}
use Rattle.printed.proofs.Opens.{opens-append, decimal-opens, value-opens, Leaving, stops, takes, Costs, Takes, free, then-leaving, map-leaving, leaving, on-left, past-spaces, number-takes, signed-takes, keyword-takes, symbol-takes, name-takes, line-end-takes}
use Rattle.printed.proofs.OpensArith.{read-sum-takes}
use Rattle.printed.proofs.OpensCondition.{read-test-takes}

-- ---- what stands on a line

abbrev pub action_needs : Action → ℕ
action_needs x = opens (print_action x)

abbrev pub line_needs : Line → ℕ
line_needs x = opens (print_line x)

-- texts without parentheses before and behind one
only : (s t u : Bytes) → opens s ≡ 0 → opens u ≡ 0 → opens (s ++ (t ++ u)) ≡ opens t
only s t u e f = let a = opens-append s (t ++ u) in let b = opens-append t u in omega arith

-- a word and a number before one
pub after-number : (w : Bytes) (n : ℕ) (s : Bytes) → opens w ≡ 0 → opens (w ++ (decimal n ++ s)) ≡ opens s
after-number w n s e = let a = opens-append w (decimal n ++ s) in let b = opens-append (decimal n) s in let c = decimal-opens n in omega arith

named : (w : Bytes) (n : ℕ) → opens w ≡ 0 → opens (w ++ decimal n) ≡ 0
named w n e = let a = opens-append w (decimal n) in let b = decimal-opens n in omega arith

named-both : (w v : Bytes) (n m : ℕ) → opens w ≡ 0 → opens v ≡ 0 → opens (w ++ (decimal n ++ (v ++ decimal m))) ≡ 0
named-both w v n m e f = after-number w n (v ++ decimal m) e ∙ named v m f

-- what was taken has a property, and no more is left
both-leaving : {A : Type 0} {P : A → Type 0} {n : ℕ} {g : Read A} → Took P g → Costs free n g → Leaving (λ a r. P a × (opens r ≤ n)) g
both-leaving p (stops r) = stops r
both-leaving p (takes a r h) = takes a r (p, omega arith)

-- go on after a word with what it stands for
word-takes : {B : Type 0} (need : B → ℕ) (ws : List (Word (Bytes → Read B))) → Mean (Takes need) ws → Takes need (λ s. then_read (keyword ws s) (λ f r. f r))
word-takes need ws h s =
    then-leaving (λ f r. f r) (both-leaving (keyword-took (Takes need) ws h s) (keyword-takes ws s)) (λ f r p. on-left need p.0 r p.1)

pub word-only-takes : (w : Bytes) → Takes free (word_only w)
unfolding word_only
word-only-takes w s = keyword-takes (word w tt ∷ []) s

pub range-leaving : {A B : Type 0} (P : B → Type 0) (one : Bytes → Read A) (f : A → A → B) → Takes free one → ((a b : A) → P (f a b))
    → (s : Bytes) → Leaving (λ y r. P y × (opens r ≤ opens s)) (range one f s)
unfolding range
range-leaving P one f h p s =
    then-leaving _ (h s) (λ a r l. then-leaving _ (symbol-takes (bytes "..") r) (λ _ t k. map-leaving _ (f a) (h t) (λ b u i. (p a b, omega arith))))

assigned : (r : ℕ) (x : Arith) → action_needs (assign r x) ≡ opens (print_arith 1 x)
unfolding print_action opens
assigned r x = after-number (bytes "r") r (bytes " := " ++ print_arith 1 x) refl

assignment-takes : Takes action_needs assignment
unfolding assignment
assignment-takes s =
    then-leaving _ (name-takes (bytes "r") s) (λ r t h. then-leaving _ (symbol-takes (bytes ":=") t) (λ _ u k.
    map-leaving _ (assign r) (read-sum-takes u) (λ x v l. let e = assigned r x in omega arith)))

jumped : (n : ℕ) (c : Condition) → action_needs (branch n c) ≡ opens (print_condition 1 c)
unfolding print_action opens
jumped n c = only (bytes "if ") (print_condition 1 c) (bytes " goto " ++ decimal n) refl (named (bytes " goto ") n refl)

jump-takes : Takes action_needs jump
unfolding jump
jump-takes s =
    then-leaving _ (read-test-takes s) (λ c r h. then-leaving _ (word-only-takes (bytes "goto") r) (λ _ t k.
    map-leaving _ (λ n. branch n c) (number-takes t) (λ n u l. let e = jumped n c in omega arith)))

transfer-takes : (w : Bytes) (f : ℕ → ℕ → Action) → ((r v : ℕ) → action_needs (f r v) ≡ 0) → Takes action_needs (transfer w f)
unfolding transfer
transfer-takes w f e s =
    then-leaving _ (name-takes (bytes "r") s) (λ a r h. then-leaving _ (word-only-takes w r) (λ _ t k.
    map-leaving _ (f a) (name-takes (bytes "x") t) (λ v u l. let n = e a v in omega arith)))

lock-takes : (f : ℕ → Action) → ((l : ℕ) → action_needs (f l) ≡ 0) → Takes action_needs (λ s. map_read f (name (bytes "l") s))
lock-takes f e s = map-leaving _ f (name-takes (bytes "l") s) (λ l r h. let n = e l in omega arith)

skip-takes : Takes action_needs (λ s. took skip s)
unfolding print_action opens
skip-takes s = takes skip s (omega arith)

actions-take : Mean (Takes action_needs) actions
unfolding actions print_action opens
actions-take =
    one_word skip-takes (one_word jump-takes
    (one_word (transfer-takes (bytes "to") store (λ r v. named-both (bytes "store r") (bytes " to x") r v refl refl))
    (one_word (transfer-takes (bytes "from") load (λ r v. named-both (bytes "load r") (bytes " from x") r v refl refl))
    (one_word (lock-takes unlock (λ l. named (bytes "unlock l") l refl)) (one_word (lock-takes lock (λ l. named (bytes "lock l") l refl)) no_words)))))

action-takes : Takes action_needs action_here
unfolding action_here
action-takes [] = stops []
action-takes (b ∷ s) =
    if-ind (eqb b 114) (assignment (b ∷ s)) (then_read (keyword actions (b ∷ s)) (λ f r. f r)) (Costs action_needs (opens (b ∷ s)))
    (λ _. assignment-takes (b ∷ s)) (λ _. word-takes action_needs actions actions-take (b ∷ s))

-- ---- lines

times-need : (q : Bool) (a b : ℕ) → opens (print_times q a b) ≡ 0
unfolding print_times opens
times-need true a b = refl
times-need false a b =
    let x = opens-append (decimal a) (bytes ".." ++ (decimal b ++ bytes " ")) in
    let y = opens-append (decimal b) (bytes " ") in
    let z = decimal-opens a in
    let w = decimal-opens b in
    omega arith

statement-needs : (a b : ℕ) (x : Action) → line_needs (statement_line a b x) ≤ action_needs x
unfolding print_line
statement-needs a b x = let e = opens-append (print_times (is_halt x) a b) (print_action x) in let t = times-need (is_halt x) a b in omega arith

timed-takes : Takes line_needs timed
unfolding timed
timed-takes s =
    then-leaving _ (range-leaving (λ (f : Action → Line). (x : Action) → line_needs (f x) ≤ action_needs x) number (λ a b x. statement_line a b x) number-takes statement-needs s)
    (λ f r p. map-leaving _ f (past-spaces action_needs action-takes r) (λ x t h. let e = p.0 x in let l = p.1 in omega arith))

range-needs : (w : Bytes) (i : Interval) → opens w ≡ 0 → opens (w ++ print_range i) ≡ 0
unfolding print_range opens
range-needs w i e =
    let a = opens-append w (print_value i.low ++ (bytes ".." ++ print_value i.high)) in
    let b = opens-append (print_value i.low) (bytes ".." ++ print_value i.high) in
    let c = value-opens i.low in
    let d = value-opens i.high in
    omega arith

-- a line of two values
values-take : (f : Interval → Line) → ((i : Interval) → line_needs (f i) ≡ 0) → Takes line_needs (range signed (λ a b. f (interval a b)))
values-take f e s =
    leaving (range-leaving (λ x. line_needs x ≡ 0) signed (λ a b. f (interval a b)) signed-takes (λ a b. e (interval a b)) s)
    (λ x r p. let n = p.0 in let l = p.1 in omega arith)

openings-take : (due : Due) → Mean (Takes line_needs) (openings due)
unfolding openings print_line print_times print_action is_halt opens
openings-take locks_due = one_word (λ s. map-leaving _ locks_line (number-takes s) (λ n r h. let e = named (bytes "locks ") n refl in omega arith)) no_words
openings-take var_due = one_word (values-take var_line (λ i. range-needs (bytes "var ") i refl)) (one_word (λ s. takes thread_line s (omega arith)) no_words)
openings-take reg_due = one_word (values-take reg_line (λ i. range-needs (bytes "reg ") i refl)) (one_word (λ s. takes (statement_line 0 0 halt) s (omega arith)) no_words)
openings-take statement_due = one_word (λ s. takes thread_line s (omega arith)) (one_word (λ s. takes (statement_line 0 0 halt) s (omega arith)) no_words)

here-takes : (due : Due) → Takes line_needs (line_here due)
unfolding line_here
here-takes due [] = stops []
here-takes due (b ∷ s) =
    if-ind (takes_times due && is_digit b) (timed (b ∷ s)) (then_read (keyword (openings due) (b ∷ s)) (λ f r. f r)) (Costs line_needs (opens (b ∷ s)))
    (λ _. timed-takes (b ∷ s)) (λ _. word-takes line_needs (openings due) (openings-take due) (b ∷ s))

pub line-takes : (due : Due) → Takes line_needs (read_line due)
unfolding read_line
line-takes due s = then-leaving line_end (past-spaces line_needs (here-takes due) s) (λ x r h. line-end-takes _ x r (λ t l. omega arith))
