-- Expressions and their bytes: what reads as an expression is its encoding and fits, and the encoding of one that fits
-- reads as it.
use mathlib.Core.Path.{◌≡◌, refl, sym, ap, ◌∙◌}
use mathlib.Core.List.{[], ◌∷◌, ◌++◌}
use Prim.Native.Nat.{ℕ, zero, suc, ◌+◌, ◌≤◌, ◌<◌}
use native.Mathlib.Omega.{arith}
use lib.Dec.{leb, ltb, eqb, leb→le, ltb→lt, eqb→eq, le→leb, lt→ltb}
use lib.ListN.{length, length-append}
use Rattle.rules.specs.Refusal.{bad_expression, no_such_name}
use Rattle.rules.specs.Interval.{Operator, plus, minus, times, divide}
use Rattle.rules.specs.Program.{Arith, constant, register, operation, Condition, always, never, negation, conjunction, equal, less}
use Rattle.rules.specs.Format.{Bytes, AreBytes, byte, bad, got, and_then, ArithKind, a_constant, a_register, an_operator, unknown, arith_kind, arith_at, read_constant, read_register, on_arith, read_arith}
use Rattle.rules.specs.Format.{ConditionKind, leaf, a_negation, a_conjunction, comparison, unknown_condition, condition_kind, condition_at, on_condition, read_condition}
use Rattle.rules.specs.Encoding.{operator_code, encode_value, encode_arith, encode_condition}
use Rattle.rules.specs.Fits.{ArithFits, ConditionFits}
use Rattle.rules.proofs.Base.{if-ind}
use Rattle.rules.proofs.IfAt.{IfAt, need-at, then_at, need-yes, then-got, if_yes}
use Rattle.rules.proofs.Stands.{Stands, stands_one, stands-cons, stands-append, stands-left, stands-right}
use Rattle.rules.proofs.Values.{value_is, stands-value, int32-value}

-- ---- arithmetic: which code has which kind

data KindAt (s : Bytes) (e p : ℕ) : ArithKind → Type 0 where
  at_constant : p < e → byte s p ≡ 16 → KindAt s e p a_constant
  at_register : p < e → byte s p ≡ 17 → KindAt s e p a_register
  at_operator : (o : Operator) → p < e → byte s p ≡ operator_code o → KindAt s e p (an_operator o)
  at_none : KindAt s e p unknown

kind_at : (s : Bytes) (e p : ℕ) → KindAt s e p (arith_at s e p)
unfolding arith_at arith_kind
kind_at s e p =
    let c = byte s p in let P = KindAt s e p in
    if-ind (ltb p e) _ unknown P (λ t. let i = ltb→lt p e t in
    if-ind (eqb c 16) _ _ P (λ t. at_constant i (eqb→eq c 16 t)) (λ _.
    if-ind (eqb c 17) _ _ P (λ t. at_register i (eqb→eq c 17 t)) (λ _.
    if-ind (eqb c 18) _ _ P (λ t. at_operator plus i (eqb→eq c 18 t)) (λ _.
    if-ind (eqb c 19) _ _ P (λ t. at_operator minus i (eqb→eq c 19 t)) (λ _.
    if-ind (eqb c 20) _ _ P (λ t. at_operator times i (eqb→eq c 20 t)) (λ _.
    if-ind (eqb c 21) _ _ P (λ t. at_operator divide i (eqb→eq c 21 t)) (λ _. at_none))))))) (λ _. at_none)

pub operator-kind : (o : Operator) → arith_kind (operator_code o) ≡ an_operator o
unfolding arith_kind
operator-kind plus = refl
operator-kind minus = refl
operator-kind times = refl
operator-kind divide = refl

pub kind_is : (s : Bytes) (e p c : ℕ) → p < e → byte s p ≡ c → arith_at s e p ≡ arith_kind c
unfolding arith_at
kind_is s e p c i b = if_yes (ltb p e) (arith_kind (byte s p)) unknown (lt→ltb p e i) ∙ ap arith_kind b

-- ---- what reads is the encoding of what it reads as, and fits

pub record ArithAt (s : Bytes) (d n p : ℕ) (a : Arith) (q : ℕ) : Type 0 where
  pub bytes : Stands (encode_arith a) s p q
  pub fits : ArithFits d n a

module _ {s : Bytes} (o : AreBytes s) (e n : ℕ) (le : e ≤ length s) where
  arith-step : (d p : ℕ) (k : ArithKind) → KindAt s e p k → ((p : ℕ) → IfAt (ArithAt s d n p) (read_arith d s e n p))
      → IfAt (ArithAt s (suc d) n p) (on_arith k (read_constant s e (p + 1)) (read_register s e n (p + 1))
      (λ o. and_then (read_arith d s e n (p + 1)) (λ a q. and_then (read_arith d s e n q) (λ b r. got (operation o a b) r))) (bad bad_expression p))
  unfolding on_arith read_constant read_register encode_arith
  arith-step d p k (at_constant i c) f =
      need-at (ArithAt s (suc d) n p) (leb (p + 1 + 4) e) bad_expression (p + 1) _ (λ t.
      let h = leb→le (p + 1 + 4) e t in
      record { bytes = stands-cons c (stands-value o (omega arith)); fits = int32-value o (p + 1) })
  arith-step d p k (at_register i c) f =
      need-at (ArithAt s (suc d) n p) (leb (p + 1 + 1) e) bad_expression (p + 1) _ (λ t.
      need-at (ArithAt s (suc d) n p) (ltb (byte s (p + 1)) n) no_such_name (p + 1) _ (λ u.
      let h = leb→le (p + 1 + 1) e t in
      record { bytes = stands-cons c (stands_one (omega arith) refl); fits = ltb→lt (byte s (p + 1)) n u }))
  arith-step d p k (at_operator x i c) f =
      then_at (ArithAt s d n (p + 1)) (ArithAt s (suc d) n p) (read_arith d s e n (p + 1)) _ (f (p + 1)) (λ a q h.
      then_at (ArithAt s d n q) (ArithAt s (suc d) n p) (read_arith d s e n q) _ (f q) (λ b r k.
      record { bytes = stands-cons c (stands-append h.bytes k.bytes); fits = (h.fits, k.fits) }))
  arith-step d p k at_none f = tt

  pub arith-at : (d p : ℕ) → IfAt (ArithAt s d n p) (read_arith d s e n p)
  unfolding read_arith
  arith-at zero p = tt
  arith-at (suc d) p = arith-step d p (arith_at s e p) (kind_at s e p) (arith-at d)

-- ---- the encoding of an expression that fits reads as it

module _ {s : Bytes} (e n : ℕ) where
  pub arith-reads : (d : ℕ) (a : Arith) {p q : ℕ} → ArithFits d n a → Stands (encode_arith a) s p q → q ≤ e → read_arith d s e n p ≡ got a q
  unfolding read_arith on_arith read_constant read_register encode_arith arith_kind
  arith-reads zero a f h le = absurd f
  arith-reads (suc d) (constant z) {p} {q} f h le =
      let g = h.ends in
      let v = stands-right (16 ∷ []) (encode_value z) h in
      let m : p + 1 + 4 ≡ q = omega arith in
      rw (kind_is s e p 16 (omega arith) (h.same 0 p (omega arith) (omega arith)))
      (need-yes (leb (p + 1 + 4) e) _ _ _ (le→leb (p + 1 + 4) e (omega arith)) ∙ (λ i. got (constant (value_is z f v i)) (m i)))
  arith-reads (suc d) (register r) {p} {q} f h le =
      let g = h.ends in
      let v = h.same 1 (p + 1) (omega arith) (omega arith) in
      let m : p + 1 + 1 ≡ q = omega arith in
      rw (kind_is s e p 17 (omega arith) (h.same 0 p (omega arith) (omega arith)))
      (need-yes (leb (p + 1 + 1) e) _ _ _ (le→leb (p + 1 + 1) e (omega arith))
      ∙ need-yes (ltb (byte s (p + 1)) n) _ _ _ (lt→ltb (byte s (p + 1)) n (omega arith)) ∙ (λ i. got (register (v i)) (m i)))
  arith-reads (suc d) (operation o a b) {p} {q} f h le =
      let g = h.ends in let l = length-append (encode_arith a) (encode_arith b) in
      let v = stands-right (operator_code o ∷ []) (encode_arith a ++ encode_arith b) h in
      let x = stands-left (encode_arith a) (encode_arith b) v in
      let y = stands-right (encode_arith a) (encode_arith b) v in
      rw (kind_is s e p (operator_code o) (omega arith) (h.same 0 p (omega arith) (omega arith)) ∙ operator-kind o)
      (then-got _ (arith-reads d a f.0 x (omega arith)) ∙ then-got _ (arith-reads d b f.1 y le))

-- ---- conditions, likewise

data ConditionKindAt (s : Bytes) (e p : ℕ) : ConditionKind → Type 0 where
  at_always : p < e → byte s p ≡ 32 → ConditionKindAt s e p (leaf always)
  at_never : p < e → byte s p ≡ 33 → ConditionKindAt s e p (leaf never)
  at_negation : p < e → byte s p ≡ 34 → ConditionKindAt s e p a_negation
  at_conjunction : p < e → byte s p ≡ 35 → ConditionKindAt s e p a_conjunction
  at_equal : p < e → byte s p ≡ 36 → ConditionKindAt s e p (comparison equal)
  at_less : p < e → byte s p ≡ 37 → ConditionKindAt s e p (comparison less)
  at_other : ConditionKindAt s e p unknown_condition

condition-kind-at : (s : Bytes) (e p : ℕ) → ConditionKindAt s e p (condition_at s e p)
unfolding condition_at condition_kind
condition-kind-at s e p =
    let c = byte s p in let P = ConditionKindAt s e p in
    if-ind (ltb p e) _ unknown_condition P (λ t. let i = ltb→lt p e t in
    if-ind (eqb c 32) _ _ P (λ t. at_always i (eqb→eq c 32 t)) (λ _.
    if-ind (eqb c 33) _ _ P (λ t. at_never i (eqb→eq c 33 t)) (λ _.
    if-ind (eqb c 34) _ _ P (λ t. at_negation i (eqb→eq c 34 t)) (λ _.
    if-ind (eqb c 35) _ _ P (λ t. at_conjunction i (eqb→eq c 35 t)) (λ _.
    if-ind (eqb c 36) _ _ P (λ t. at_equal i (eqb→eq c 36 t)) (λ _.
    if-ind (eqb c 37) _ _ P (λ t. at_less i (eqb→eq c 37 t)) (λ _. at_other))))))) (λ _. at_other)

condition-kind-is : (s : Bytes) (e p c : ℕ) → p < e → byte s p ≡ c → condition_at s e p ≡ condition_kind c
unfolding condition_at
condition-kind-is s e p c i b = if_yes (ltb p e) (condition_kind (byte s p)) unknown_condition (lt→ltb p e i) ∙ ap condition_kind b

pub record ConditionAt (s : Bytes) (d n p : ℕ) (c : Condition) (q : ℕ) : Type 0 where
  pub bytes : Stands (encode_condition c) s p q
  pub fits : ConditionFits d n c

module _ {s : Bytes} (o : AreBytes s) (e n : ℕ) (le : e ≤ length s) where
  -- two sides of a comparison
  sides : (d p : ℕ) (f : Arith → Arith → Condition) → ((a b : Arith) (q r : ℕ) → ArithAt s d n (p + 1) a q → ArithAt s d n q b r → ConditionAt s (suc d) n p (f a b) r)
      → IfAt (ConditionAt s (suc d) n p) (and_then (read_arith d s e n (p + 1)) (λ a q. and_then (read_arith d s e n q) (λ b r. got (f a b) r)))
  sides d p f k =
      then_at (ArithAt s d n (p + 1)) (ConditionAt s (suc d) n p) (read_arith d s e n (p + 1)) _ (arith-at o e n le d (p + 1)) (λ a q x.
      then_at (ArithAt s d n q) (ConditionAt s (suc d) n p) (read_arith d s e n q) _ (arith-at o e n le d q) (λ b r y. k a b q r x y))

  condition-step : (d p : ℕ) (k : ConditionKind) → ConditionKindAt s e p k → ((p : ℕ) → IfAt (ConditionAt s d n p) (read_condition d s e n p))
      → IfAt (ConditionAt s (suc d) n p) (on_condition k (λ c. got c (p + 1))
      (λ _. and_then (read_condition d s e n (p + 1)) (λ c q. got (negation c) q))
      (λ _. and_then (read_condition d s e n (p + 1)) (λ a q. and_then (read_condition d s e n q) (λ b r. got (conjunction a b) r)))
      (λ f. and_then (read_arith d s e n (p + 1)) (λ a q. and_then (read_arith d s e n q) (λ b r. got (f a b) r)))
      (bad bad_expression p))
  unfolding on_condition encode_condition
  condition-step d p k (at_always i c) f = record { bytes = stands_one (omega arith) c; fits = tt }
  condition-step d p k (at_never i c) f = record { bytes = stands_one (omega arith) c; fits = tt }
  condition-step d p k (at_negation i c) f =
      then_at (ConditionAt s d n (p + 1)) (ConditionAt s (suc d) n p) (read_condition d s e n (p + 1)) _ (f (p + 1)) (λ a q x.
      record { bytes = stands-cons c x.bytes; fits = x.fits })
  condition-step d p k (at_conjunction i c) f =
      then_at (ConditionAt s d n (p + 1)) (ConditionAt s (suc d) n p) (read_condition d s e n (p + 1)) _ (f (p + 1)) (λ a q x.
      then_at (ConditionAt s d n q) (ConditionAt s (suc d) n p) (read_condition d s e n q) _ (f q) (λ b r y.
      record { bytes = stands-cons c (stands-append x.bytes y.bytes); fits = (x.fits, y.fits) }))
  condition-step d p k (at_equal i c) f =
      sides d p equal (λ a b q r x y. record { bytes = stands-cons c (stands-append x.bytes y.bytes); fits = (x.fits, y.fits) })
  condition-step d p k (at_less i c) f =
      sides d p less (λ a b q r x y. record { bytes = stands-cons c (stands-append x.bytes y.bytes); fits = (x.fits, y.fits) })
  condition-step d p k at_other f = tt

  pub condition-at : (d p : ℕ) → IfAt (ConditionAt s d n p) (read_condition d s e n p)
  unfolding read_condition
  condition-at zero p = tt
  condition-at (suc d) p = condition-step d p (condition_at s e p) (condition-kind-at s e p) (condition-at d)

module _ {s : Bytes} (e n : ℕ) where
  -- the code of a condition, with what stands behind it
  pub coded : (c : ℕ) (bs : Bytes) {p q : ℕ} → Stands (c ∷ bs) s p q → q ≤ e → condition_at s e p ≡ condition_kind c
  coded c bs {p} {q} h le = let g = h.ends in condition-kind-is s e p c (omega arith) (h.same 0 p (omega arith) (omega arith))

  arith-sides : (d c : ℕ) (f : Arith → Arith → Condition) (a b : Arith) {p q : ℕ} → ArithFits d n a → ArithFits d n b → Stands (c ∷ encode_arith a ++ encode_arith b) s p q → q ≤ e
      → and_then (read_arith d s e n (p + 1)) (λ a q. and_then (read_arith d s e n q) (λ b r. got (f a b) r)) ≡ got (f a b) q
  arith-sides d c f a b {p} {q} fa fb h le =
      let g = h.ends in let l = length-append (encode_arith a) (encode_arith b) in
      let v = stands-right (c ∷ []) (encode_arith a ++ encode_arith b) h in
      let x = stands-left (encode_arith a) (encode_arith b) v in
      let y = stands-right (encode_arith a) (encode_arith b) v in
      then-got _ (arith-reads e n d a fa x (omega arith)) ∙ then-got _ (arith-reads e n d b fb y le)

  pub condition-reads : (d : ℕ) (c : Condition) {p q : ℕ} → ConditionFits d n c → Stands (encode_condition c) s p q → q ≤ e → read_condition d s e n p ≡ got c q
  unfolding read_condition on_condition encode_condition condition_kind
  condition-reads zero c f h le = absurd f
  condition-reads (suc d) always {p} {q} f h le = rw (coded 32 [] h le, sym h.ends)
  condition-reads (suc d) never {p} {q} f h le = rw (coded 33 [] h le, sym h.ends)
  condition-reads (suc d) (negation c) {p} {q} f h le =
      rw (coded 34 (encode_condition c) h le) (then-got _ (condition-reads d c f (stands-right (34 ∷ []) (encode_condition c) h) le))
  condition-reads (suc d) (conjunction a b) {p} {q} f h le =
      let g = h.ends in let l = length-append (encode_condition a) (encode_condition b) in
      let v = stands-right (35 ∷ []) (encode_condition a ++ encode_condition b) h in
      let x = stands-left (encode_condition a) (encode_condition b) v in
      let y = stands-right (encode_condition a) (encode_condition b) v in
      rw (coded 35 (encode_condition a ++ encode_condition b) h le)
      (then-got _ (condition-reads d a f.0 x (omega arith)) ∙ then-got _ (condition-reads d b f.1 y le))
  condition-reads (suc d) (equal a b) {p} {q} f h le = rw (coded 36 (encode_arith a ++ encode_arith b) h le) (arith-sides d 36 equal a b f.0 f.1 h le)
  condition-reads (suc d) (less a b) {p} {q} f h le = rw (coded 37 (encode_arith a ++ encode_arith b) h le) (arith-sides d 37 less a b f.0 f.1 h le)
