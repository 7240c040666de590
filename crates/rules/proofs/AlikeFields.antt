-- What is read from a place on depends on the sheet's length and on the bytes from that place on: two sheets that agree there
-- read alike. Here fields and expressions.
use Rattle.std.specs.Prelude.{if◌then◌else◌}
use mathlib.Core.Path.{◌≡◌, refl, ap, subst}
use mathlib.Core.Bool.{Bool}
use mathlib.Core.List.{List, [], ◌∷◌, ◌++◌}
use Prim.Native.Nat.{ℕ, zero, suc, ◌+◌, ◌≤◌}
use native.Mathlib.Omega.{arith}
use lib.Dec.{leb, ltb, eqb}
use lib.IntN.{ℤ}
use lib.Signed.{le_z}
use lib.ListN.{length}
use Rattle.rules.specs.Refusal.{short, out_of_turn, bad_length, off_range, no_such_name, bad_expression}
use Rattle.rules.specs.Constants.{most_variables, most_locks}
use Rattle.rules.specs.Interval.{Interval, interval, Operator}
use Rattle.rules.specs.Program.{Arith, constant, register, operation, Condition, conjunction}
use Rattle.rules.specs.Format.{Bytes, Got, bad, got, byte, num16, num32, twos_complement, int32, has_head, has_body, due, sized, read_locks, read_range, variable_here, read_variables, read_registers}
use Rattle.rules.specs.Format.{ArithKind, a_constant, a_register, unknown, an_operator, arith_kind, arith_at, read_constant, read_register, on_arith, read_arith, ConditionKind, leaf, a_negation, a_conjunction, unknown_condition, comparison, condition_kind, condition_at, on_condition, read_condition}
use Rattle.rules.proofs.Alike.{Alike, need-alike, then-alike, many-alike, both-alike}

-- ---- two sheets that agree from place k on

pub record SameFrom (k : ℕ) (s t : Bytes) : Type 0 where
  pub same_length : length s ≡ length t
  pub same : (p : ℕ) → k ≤ p → byte s p ≡ byte t p

module _ (k : ℕ) (s t : Bytes) (agree : SameFrom k s t) where
  pub num16-same : (p : ℕ) → k ≤ p → num16 s p ≡ num16 t p
  num16-same p l = let a = agree.same p l in let b = agree.same (p + 1) (omega arith) in cc

  pub num32-same : (p : ℕ) → k ≤ p → num32 s p ≡ num32 t p
  unfolding num32
  num32-same p l = let a = num16-same p l in let b = num16-same (p + 2) (omega arith) in cc

  int32-same : (p : ℕ) → k ≤ p → int32 s p ≡ int32 t p
  unfolding int32
  int32-same p l = ap twos_complement (num32-same p l)

  pub head-same : (at : ℕ) → has_head s at ≡ has_head t at
  unfolding has_head
  head-same at = ap (leb (at + 3)) agree.same_length

  pub body_same : (at : ℕ) → k ≤ at → has_body s at ≡ has_body t at
  unfolding has_body
  body_same at l = let a = num16-same (at + 1) (omega arith) in let b = agree.same_length in cc

  due-alike : {A : Type 0} (tag at : ℕ) → k ≤ at → (x y : Got A) → Alike k x y → Alike k (due tag s at x) (due tag t at y)
  unfolding due
  due-alike tag at l x y h =
      need-alike k _ _ (head-same at) short at _ _ (need-alike k _ _ (ap (λ (b : ℕ). eqb b tag) (agree.same at l)) out_of_turn at x y h)

  pub sized-alike : {A : Type 0} (at n : ℕ) → k ≤ at → (ok ok' : Bool) → ok ≡ ok' → (a a' : A) → a ≡ a' → Alike k (sized s at n ok a) (sized t at n ok' a')
  unfolding sized
  sized-alike {A} at n l ok ok' e a a' e' =
      need-alike k _ _ (body_same at l) short at _ _ (need-alike k _ _ (ap (λ (b : ℕ). eqb b n) (num16-same (at + 1) (omega arith))) bad_length at _ _
      (need-alike k ok ok' e off_range at _ _ (ap (λ (x : A). got x (at + 3 + n)) e', omega arith)))

  pub locks-alike : (at : ℕ) → k ≤ at → Alike k (read_locks s at) (read_locks t at)
  unfolding read_locks
  locks-alike at l =
      let e = agree.same (at + 3) (omega arith) in
      due-alike 3 at l _ _ (sized-alike at 1 l _ _ (ap (λ (b : ℕ). leb b most_locks) e) _ _ e)

  range-alike : (at : ℕ) → k ≤ at → Alike k (read_range s at) (read_range t at)
  unfolding read_range
  range-alike at l =
      let a = int32-same (at + 3) (omega arith) in
      let b = int32-same (at + 7) (omega arith) in
      sized-alike at 8 l _ _ (λ i. le_z (a i) (b i)) _ _ (λ i. interval (a i) (b i))

  variable-here : (at : ℕ) → k ≤ at → variable_here s at ≡ variable_here t at
  unfolding variable_here
  variable-here at l = let a = head-same at in let b = agree.same at l in cc

  pub variables-alike : (at : ℕ) → k ≤ at → Alike k (read_variables s at) (read_variables t at)
  unfolding read_variables
  variables-alike at l =
      many-alike k (λ n p. variable_here s p) (λ n p. variable_here t p) (λ p. read_range s p) (λ p. read_range t p) (λ n p l'. variable-here p l') (λ p l'. range-alike p l') most_variables [] at l

  pub registers-alike : (n : ℕ) (rs : List Interval) (at : ℕ) → k ≤ at → Alike k (read_registers n rs s at) (read_registers n rs t at)
  unfolding read_registers
  registers-alike zero rs at l = (refl, l)
  registers-alike (suc n) rs at l =
      then-alike k (due 5 s at (read_range s at)) (due 5 t at (read_range t at)) (λ i q. read_registers n (rs ++ i ∷ []) s q) (λ i q. read_registers n (rs ++ i ∷ []) t q)
      (due-alike 5 at l (read_range s at) (read_range t at) (range-alike at l)) (λ i q l'. registers-alike n (rs ++ i ∷ []) q l')

  -- ---- expressions

  constant-alike : (e p : ℕ) → k ≤ p → Alike k (read_constant s e p) (read_constant t e p)
  unfolding read_constant
  constant-alike e p l =
      need-alike k (leb (p + 4) e) (leb (p + 4) e) refl bad_expression p _ _ (ap (λ (z : ℤ). got (constant z) (p + 4)) (int32-same p l), omega arith)

  register-alike : (e n p : ℕ) → k ≤ p → Alike k (read_register s e n p) (read_register t e n p)
  unfolding read_register
  register-alike e n p l =
      let x = agree.same p l in
      need-alike k (leb (p + 1) e) (leb (p + 1) e) refl bad_expression p _ _
      (need-alike k _ _ (ap (λ (b : ℕ). ltb b n) x) no_such_name p _ _ (ap (λ (b : ℕ). got (register b) (p + 1)) x, omega arith))

  on-arith : (h h' : ArithKind) → h ≡ h' → (c c' r r' : Got Arith) (f f' : Operator → Got Arith) (u : Got Arith) → Alike k c c' → Alike k r r'
      → ((o : Operator) → Alike k (f o) (f' o)) → Alike k u u → Alike k (on_arith h c r f u) (on_arith h' c' r' f' u)
  unfolding on_arith
  on-arith a_constant h' e c c' r r' f f' u x y z v = subst (λ (i : ArithKind). Alike k c (on_arith i c' r' f' u)) e x
  on-arith a_register h' e c c' r r' f f' u x y z v = subst (λ (i : ArithKind). Alike k r (on_arith i c' r' f' u)) e y
  on-arith (an_operator o) h' e c c' r r' f f' u x y z v = subst (λ (i : ArithKind). Alike k (f o) (on_arith i c' r' f' u)) e (z o)
  on-arith unknown h' e c c' r r' f f' u x y z v = subst (λ (i : ArithKind). Alike k u (on_arith i c' r' f' u)) e v

  arith-at : (e p : ℕ) → k ≤ p → arith_at s e p ≡ arith_at t e p
  unfolding arith_at
  arith-at e p l = ap (λ (b : ℕ). if ltb p e then arith_kind b else unknown) (agree.same p l)

  pub arith_alike : (d e n p : ℕ) → k ≤ p → Alike k (read_arith d s e n p) (read_arith d t e n p)
  unfolding read_arith
  arith_alike zero e n p l = refl
  arith_alike (suc d) e n p l =
      on-arith (arith_at s e p) (arith_at t e p) (arith-at e p l) _ _ _ _ _ _ (bad bad_expression p)
      (constant-alike e (p + 1) (omega arith)) (register-alike e n (p + 1) (omega arith))
      (λ o. both-alike k (λ q. read_arith d s e n q) (λ q. read_arith d t e n q) (operation o) (p + 1) (omega arith) (λ q l'. arith_alike d e n q l')) refl

  on-condition : (h h' : ConditionKind) → h ≡ h' → (l l' : Condition → Got Condition) (n n' a a' : Unit {0} → Got Condition)
      (f f' : (Arith → Arith → Condition) → Got Condition) (u : Got Condition) → ((c : Condition) → Alike k (l c) (l' c)) → Alike k (n tt) (n' tt) → Alike k (a tt) (a' tt)
      → ((o : Arith → Arith → Condition) → Alike k (f o) (f' o)) → Alike k u u → Alike k (on_condition h l n a f u) (on_condition h' l' n' a' f' u)
  unfolding on_condition
  on-condition (leaf c) h' e l l' n n' a a' f f' u w x y z v = subst (λ (i : ConditionKind). Alike k (l c) (on_condition i l' n' a' f' u)) e (w c)
  on-condition a_negation h' e l l' n n' a a' f f' u w x y z v = subst (λ (i : ConditionKind). Alike k (n tt) (on_condition i l' n' a' f' u)) e x
  on-condition a_conjunction h' e l l' n n' a a' f f' u w x y z v = subst (λ (i : ConditionKind). Alike k (a tt) (on_condition i l' n' a' f' u)) e y
  on-condition (comparison o) h' e l l' n n' a a' f f' u w x y z v = subst (λ (i : ConditionKind). Alike k (f o) (on_condition i l' n' a' f' u)) e (z o)
  on-condition unknown_condition h' e l l' n n' a a' f f' u w x y z v = subst (λ (i : ConditionKind). Alike k u (on_condition i l' n' a' f' u)) e v

  condition-at : (e p : ℕ) → k ≤ p → condition_at s e p ≡ condition_at t e p
  unfolding condition_at
  condition-at e p l = ap (λ (b : ℕ). if ltb p e then condition_kind b else unknown_condition) (agree.same p l)

  pub condition-alike : (d e n p : ℕ) → k ≤ p → Alike k (read_condition d s e n p) (read_condition d t e n p)
  unfolding read_condition
  condition-alike zero e n p l = refl
  condition-alike (suc d) e n p l =
      on-condition (condition_at s e p) (condition_at t e p) (condition-at e p l) _ _ _ _ _ _ _ _ (bad bad_expression p)
      (λ c. (refl, omega arith))
      (then-alike k (read_condition d s e n (p + 1)) (read_condition d t e n (p + 1)) _ _ (condition-alike d e n (p + 1) (omega arith)) (λ c q l'. (refl, l')))
      (both-alike k (λ q. read_condition d s e n q) (λ q. read_condition d t e n q) conjunction (p + 1) (omega arith) (λ q l'. condition-alike d e n q l'))
      (λ f. both-alike k (λ q. read_arith d s e n q) (λ q. read_arith d t e n q) f (p + 1) (omega arith) (λ q l'. arith_alike d e n q l')) refl
