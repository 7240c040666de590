-- Several of a kind, read one after another: the code keeps their number. A loop's invariant says which list the rules hold.
use Rattle.std.specs.Prelude.{◌≡◌, Bool, ltb, true, false, ℕ, zero, suc, ◌+◌, ◌-◌, ◌<◌, ◌≤◌, List, [], ◌∷◌, ◌++◌, length, Ok, Err}
use Rattle.std.proofs.Common.{refl, sym, ap, ◌∙◌, arith, length-append}
use borrow.Author.Tests.{ltb-true, ltb-false}
use Rattle.rules.specs.Refusal as R
use Rattle.rules.specs.Refusal.{too_many}
use Rattle.rules.specs.Format.{Got, bad, got, and_then, Here, wrong, more, done, on_here, read_many}
use Rattle.refusal.specs.declared.Fault.{Fault}
use Rattle.refusal.specs.declared.Refusal.TheVariants.{TooMany}
use Rattle.refusal.specs.Shape.{rule_of}
use Rattle.field.specs.Outcome.{needed, end_of, next_of}
use Rattle.field.proofs.outcome.Laws.{needed-held, needed-failed, got_of, bad-of, next-wrong, next_more, next-done}

-- ---- one turn of `read_many`

module _ {A : Type 0} (here : ℕ → ℕ → Here) (one : ℕ → Got A) where
  many-wrong : (k : ℕ) (xs : List A) (p : ℕ) (r : R.Refusal) → here (length xs) p ≡ wrong r → read_many here one k xs p ≡ bad r p
  unfolding read_many on_here
  many-wrong zero xs p r e = rw e
  many-wrong (suc k) xs p r e = rw e

  many-done : (k : ℕ) (xs : List A) (p : ℕ) → here (length xs) p ≡ done → read_many here one k xs p ≡ got xs p
  unfolding read_many on_here
  many-done zero xs p e = rw e
  many-done (suc k) xs p e = rw e

  many-full : (k : ℕ) (xs : List A) (p : ℕ) → k ≡ 0 → here (length xs) p ≡ more → read_many here one k xs p ≡ bad too_many p
  unfolding read_many on_here
  many-full k xs p z e = rw (z, e)

  many-bad : (k : ℕ) (xs : List A) (p : ℕ) (r : R.Refusal) (q : ℕ) → 0 < k → here (length xs) p ≡ more → one p ≡ bad r q
      → read_many here one k xs p ≡ bad r q
  unfolding read_many on_here and_then
  many-bad zero xs p r q z e f = absurd (omega arith)
  many-bad (suc k) xs p r q z e f = rw (e, f)

  many_more : (k : ℕ) (xs : List A) (p : ℕ) (a : A) (q : ℕ) → here (length xs) p ≡ more → one p ≡ got a q
      → read_many here one (suc k) xs p ≡ read_many here one k (xs ++ a ∷ []) q
  unfolding read_many on_here and_then
  many_more k xs p a q e f = rw (e, f)

-- a loop that has read n of at most N and stands at p: the rules hold `items`
pub record Turn {A : Type 0} (here : ℕ → ℕ → Here) (one : ℕ → Got A) (N : ℕ) (G : Got (List A)) (n p : ℕ) : Type 0 where
  pub items : List A
  pub count : length items ≡ n
  pub top : n ≤ N
  pub rest : G ≡ read_many here one (N - n) items p

module _ {A : Type 0} {here : ℕ → ℕ → Here} {one : ℕ → Got A} {N n p : ℕ} {G : Got (List A)} (t : Turn here one N G n p) where
  at_count : {k : Here} → here n p ≡ k → here (length t.items) p ≡ k
  at_count e = ap (λ (j : ℕ). here j p) t.count ∙ e

  pub turn-wrong : {f : Fault} → Err f ≡ next_of p (here n p) → G ≡ bad (rule_of f.refusal) f.place
  turn-wrong {f} e =
      let w = next-wrong (here n p) e in
      t.rest ∙ many-wrong here one (N - n) t.items p _ (at_count w.0) ∙ ap (bad (rule_of f.refusal)) w.1

  module _ {b : Bool} (e : Ok b ≡ next_of p (here n p)) where
    pub turn-done : b ≡ false → G ≡ got t.items p
    turn-done h = t.rest ∙ many-done here one (N - n) t.items p (at_count (next-done p (here n p) e h))

    module _ (h : b ≡ true) where
      stands : here (length t.items) p ≡ more
      stands = at_count (next_more p (here n p) e h)

      -- no more may be read: the check of their number
      pub turn-full : {f : Fault} → Err f ≡ needed (ltb n N) TooMany p → G ≡ bad (rule_of f.refusal) f.place
      turn-full x =
          let w = needed-failed (ltb n N) TooMany p x in
          let k = ltb-false n N w.0 in
          t.rest ∙ many-full here one (N - n) t.items p (omega arith) stands
          ∙ (λ i. bad (rule_of (sym w.1 i).refusal) (sym w.1 i).place)

      module _ (y : Ok tt ≡ needed (ltb n N) TooMany p) where
        room : n < N
        room = ltb-true n N (needed-held (ltb n N) TooMany p y)

        pub turn-bad : {f : Fault} → Err f ≡ end_of (one p) → G ≡ bad (rule_of f.refusal) f.place
        turn-bad b = t.rest ∙ many-bad here one (N - n) t.items p _ _ (let g = room in omega arith) stands (bad-of (one p) b)

        pub turn-well : (a : A) {q : ℕ} → one p ≡ got a q → Turn here one N G (n + 1) q
        turn-well a {q} b =
            let c = t.count in let g = room in
            let m : N - n ≡ suc (N - (n + 1)) = omega arith in
            record {
              items = t.items ++ a ∷ [];
              count = simp length-append (omega arith);
              top = omega arith;
              rest = t.rest ∙ ap (λ (k : ℕ). read_many here one k t.items p) m ∙ many_more here one (N - (n + 1)) t.items p a q stands b;
            }

        pub turn_more : {q : ℕ} → Ok q ≡ end_of (one p) → Turn here one N G (n + 1) q
        turn_more b = let w = got_of (one p) b in turn-well w.0 w.1

-- what one more turn holds
pub turn-items : {A : Type 0} {here : ℕ → ℕ → Here} {one : ℕ → Got A} {N n p : ℕ} {G : Got (List A)} (t : Turn here one N G n p)
    {b : Bool} (e : Ok b ≡ next_of p (here n p)) (h : b ≡ true) (y : Ok tt ≡ needed (ltb n N) TooMany p) (a : A) {q : ℕ} (o : one p ≡ got a q)
    → (turn-well t e h y a o).items ≡ t.items ++ a ∷ []
unfolding turn-well
turn-items t e h y a o = refl
