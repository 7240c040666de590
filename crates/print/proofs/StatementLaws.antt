-- Statements: the text of what one does, as the code decodes it, and its line.
use mathlib.Core.Path.{◌≡◌, refl, sym, ap, subst, ◌∙◌}
use mathlib.Core.Bool.{Bool, true, false}
use mathlib.Core.List.{[], ◌∷◌, ◌++◌}
use Prim.Native.Nat.{ℕ, ◌+◌, ◌≤◌}
use lib.Dec.{eqb}
use Rattle.rules.specs.Program as R
use Rattle.rules.specs.Program.{is_halt}
use Rattle.rules.specs.Format.{Bytes, Names}
use Rattle.rules.specs.Product.{bytes, decimal}
use Rattle.rules.proofs.Base.{if-ind}
use Rattle.text.specs.Says.{statement_line_of}
use Rattle.field.specs.Decoded.{body_end, decode_action, statement_at, statement_of, action_of, halts}
use Rattle.field.specs.declared.decoding.Action.{Action}
use Rattle.field.specs.declared.decoding.Statement.{Statement}
use Rattle.field.proofs.Halts.{halts-same}
use Rattle.reader.specs.Facts.{Expresses, StatementFacts}
use Rattle.writing.specs.Out.{Writes}
use Rattle.writing.proofs.Written.{then-writes, same_text, none_written}
use Rattle.printed.specs.Print.{print_arith, any_arith, print_condition, any_condition, print_action, print_times, print_line, ended}
use Rattle.print.specs.Texts.{TextOf, EndsIn, statement_text}

-- ---- what it does

text_of : (s : Bytes) (n p e : ℕ) (x : R.Action) → Expresses s n p e x → TextOf s (action_of p e x) (print_action x)
unfolding action_of
text_of s n p e R.halt h = refl
text_of s n p e R.skip h = refl
text_of s n p e (R.assign r a) h = (n, a, h, refl)
text_of s n p e (R.branch t c) h = (n, c, h, refl)
text_of s n p e (R.store r v) h = refl
text_of s n p e (R.load r v) h = refl
text_of s n p e (R.unlock l) h = refl
text_of s n p e (R.lock l) h = refl

-- an expression of what stands at a place ends where the field does
pub decoded-ends : (c a b p e n : ℕ) → e ≤ n → EndsIn n (decode_action c a b p e)
unfolding decode_action
decoded-ends c a b p e n h =
    if-ind (eqb c 0) _ _ (EndsIn n) (λ _. tt) (λ _.
    if-ind (eqb c 1) _ _ (EndsIn n) (λ _. tt) (λ _.
    if-ind (eqb c 2) _ _ (EndsIn n) (λ _. h) (λ _.
    if-ind (eqb c 3) _ _ (EndsIn n) (λ _. h) (λ _.
    if-ind (eqb c 4) _ _ (EndsIn n) (λ _. tt) (λ _.
    if-ind (eqb c 5) _ _ (EndsIn n) (λ _. tt) (λ _.
    if-ind (eqb c 6) _ _ (EndsIn n) (λ _. tt) (λ _. tt)))))))

pub halt-text : bytes "halt" ≡ print_action R.halt
unfolding print_action
halt-text = refl

pub skip-text : bytes "skip" ≡ print_action R.skip
unfolding print_action
skip-text = refl

pub assign-text : (r : ℕ) (x : R.Arith) → (bytes "r" ++ decimal r) ++ (bytes " := " ++ print_arith any_arith x) ≡ print_action (R.assign r x)
unfolding print_action
assign-text r x = refl

pub branch-text : (k : ℕ) (c : R.Condition) → bytes "if " ++ (print_condition any_condition c ++ (bytes " goto " ++ decimal k)) ≡ print_action (R.branch k c)
unfolding print_action
branch-text k c = refl

pub store-text : (r v : ℕ) → bytes "store r" ++ (decimal r ++ (bytes " to x" ++ decimal v)) ≡ print_action (R.store r v)
unfolding print_action
store-text r v = refl

pub load-text : (r v : ℕ) → bytes "load r" ++ (decimal r ++ (bytes " from x" ++ decimal v)) ≡ print_action (R.load r v)
unfolding print_action
load-text r v = refl

pub unlock-text : (l : ℕ) → bytes "unlock l" ++ decimal l ≡ print_action (R.unlock l)
unfolding print_action
unlock-text l = refl

pub lock-text : (l : ℕ) → bytes "lock l" ++ decimal l ≡ print_action (R.lock l)
unfolding print_action
lock-text l = refl

-- ---- its times

pub times_none : (none : Bool) (a b : ℕ) (l : Bytes) (at : ℕ) → none ≡ true → Writes (print_times none a b) l at l at
unfolding print_times
times_none none a b l at e = rw e (none_written l at)

pub times-some : (none : Bool) (a b : ℕ) → none ≡ false → decimal a ++ ((bytes ".." ++ decimal b) ++ bytes " ") ≡ print_times none a b
unfolding print_times
times-some none a b e = rw e

-- ---- its line

pub statement-prints : (s : Bytes) (at : ℕ) (r : Statement) → r ≡ statement_at s at → (none : Bool) → none ≡ halts r.action
    → (l₀ l₁ l₂ l₃ : Bytes) (a₀ a₁ a₂ a₃ : ℕ) → Writes (print_times none r.least.0 r.greatest.0) l₀ a₀ l₁ a₁
    → ((t : Bytes) → TextOf s r.action t → Writes t l₁ a₁ l₂ a₂) → Writes (10 ∷ []) l₂ a₂ l₃ a₃
    → (ns : Names) (x : R.Statement) → at ≡ x.place → StatementFacts ns s x → Writes (statement_text x) l₀ a₀ l₃ a₃
unfolding statement_text ended print_line statement_line_of
statement-prints s at r e none h l₀ l₁ l₂ l₃ a₀ a₁ a₂ a₃ e₁ e₂ e₃ ns x p f =
    let same : r ≡ statement_of s x = e ∙ ap (statement_at s) p ∙ f.decoded in
    let acts : r.action ≡ action_of (x.place + 9) (body_end s x.place) x.action = ap (λ (y : Statement). y.action) same in
    let halting : none ≡ is_halt x.action = h ∙ ap halts acts ∙ halts-same (x.place + 9) (body_end s x.place) x.action in
    let times : print_times none r.least.0 r.greatest.0 ≡ print_times (is_halt x.action) x.least x.greatest =
    (λ i. print_times (halting i) (same i).least.0 (same i).greatest.0) in
    let done : TextOf s r.action (print_action x.action) =
    subst (λ (y : Action). TextOf s y (print_action x.action)) (sym acts) (text_of s ns.regs (x.place + 9) (body_end s x.place) x.action f.expresses) in
    then-writes (print_times (is_halt x.action) x.least x.greatest ++ print_action x.action) (10 ∷ []) l₀ l₂ l₃ a₀ a₂ a₃
    (then-writes (print_times (is_halt x.action) x.least x.greatest) (print_action x.action) l₀ l₁ l₂ a₀ a₁ a₂ (same_text _ _ l₀ l₁ a₀ a₁ times e₁) (e₂ (print_action x.action) done)) e₃
