-- What a statement that was read says of the bytes at its place: whether it is halt, and where it may jump. So closing a
-- thread can go by the places of its statements.
use Rattle.std.specs.Prelude.{if◌then◌else◌, Ok, Err}
use mathlib.Core.Path.{◌≡◌, refl, ◌∙◌}
use mathlib.Core.Bool.{Bool, true, false}
use mathlib.Core.List.{List, [], ◌∷◌}
use Prim.Native.Nat.{ℕ, zero, suc, ◌+◌, ◌≤◌}
use native.Mathlib.Omega.{arith}
use lib.Dec.{leb, ltb, eqb, leb→le}
use lib.ListN.{length}
use Rattle.rules.specs.Base.{Each, nil, ◌&◌}
use Rattle.rules.specs.Refusal as R
use Rattle.rules.specs.Refusal.{short, bad_length, off_range, no_such_name, no_halt}
use Rattle.rules.specs.Constants.{most_statements}
use Rattle.rules.specs.Program.{Action, is_halt, Statement}
use Rattle.rules.specs.Format.{Bytes, byte, num16, Got, bad, got, need, map_got, Names, read_action, read_contents, read_statement, statement_here, read_statements, target_fits, last_halts, targets_fit, close}
use Rattle.rules.proofs.Format.{If, need-if, map-if, many-if}
use Rattle.refusal.specs.declared.Fault.{Fault}
use Rattle.refusal.specs.Shape.{refusal_of, rule_of, fault_at}
use Rattle.field.specs.Outcome.{needed}
use Rattle.field.proofs.outcome.Laws.{needed-held, needed-failed, fault-is}
use Rattle.reader.specs.Index.{target_at, targets_at, last_at, places_of}

pub map-any : {A B : Type 0} (P : B → Type 0) (f : A → B) (g : Got A) → ((a : A) → P (f a)) → If P (map_got f g)
unfolding map_got
map-any P f (bad r p) h = tt
map-any P f (got a q) h = h a

-- ---- a code and its action

record Says (s : Bytes) (c p : ℕ) (o : Action) : Type 0 where
  halts : is_halt o ≡ eqb c 0
  jumps : (n : ℕ) → target_fits n o ≡ (if eqb c 3 then ltb (byte s p) n else true)

action-says : (c : ℕ) → c ≤ 7 → (ns : Names) (s : Bytes) (at e p : ℕ) → If (Says s c p) (read_action c ns s at e p)
unfolding read_action is_halt target_fits
action-says zero h ns s at e p = record { halts = refl; jumps = λ n. refl }
action-says (suc zero) h ns s at e p = record { halts = refl; jumps = λ n. refl }
action-says (suc (suc zero)) h ns s at e p = need-if _ _ no_such_name at _ (λ _. map-any _ _ _ (λ a. record { halts = refl; jumps = λ n. refl }))
action-says (suc (suc (suc zero))) h ns s at e p = map-any _ _ _ (λ a. record { halts = refl; jumps = λ n. refl })
action-says (suc (suc (suc (suc zero)))) h ns s at e p = need-if _ _ no_such_name at _ (λ _. record { halts = refl; jumps = λ n. refl })
action-says (suc (suc (suc (suc (suc zero))))) h ns s at e p = need-if _ _ no_such_name at _ (λ _. record { halts = refl; jumps = λ n. refl })
action-says (suc (suc (suc (suc (suc (suc zero)))))) h ns s at e p = need-if _ _ no_such_name at _ (λ _. record { halts = refl; jumps = λ n. refl })
action-says (suc (suc (suc (suc (suc (suc (suc zero))))))) h ns s at e p = need-if _ _ no_such_name at _ (λ _. record { halts = refl; jumps = λ n. refl })
action-says (suc (suc (suc (suc (suc (suc (suc (suc c)))))))) h ns s at e p = absurd (omega arith)

-- ---- a statement and its place

-- the statement's code and target are the bytes at its place
pub record CodeAt (s : Bytes) (x : Statement) : Type 0 where
  pub halts : is_halt x.action ≡ eqb (byte s (x.place + 7)) 0
  pub jumps : (n : ℕ) → target_fits n x.action ≡ target_at s n x.place

statement-code : (ns : Names) (s : Bytes) (at : ℕ) → If (CodeAt s) (read_statement ns s at)
unfolding read_statement read_contents target_at
statement-code ns s at =
    let c = byte s (at + 7) in
    need-if (CodeAt s) _ short at _ (λ _. need-if (CodeAt s) _ bad_length at _ (λ _. need-if (CodeAt s) (leb c 7) off_range at _ (λ t.
    need-if (CodeAt s) _ bad_length at _ (λ _. need-if (CodeAt s) _ off_range at _ (λ _.
    map-if (Says s c (at + 8)) (CodeAt s) _ _ (action-says c (leb→le c 7 t) ns s at (at + 3 + num16 s (at + 1)) (at + 8))
    (λ o h. record { halts = h.halts; jumps = h.jumps }))))))

pub codes_at : (ns : Names) (s : Bytes) (at : ℕ) → If (Each (CodeAt s)) (read_statements ns s at)
unfolding read_statements
codes_at ns s at = many-if (CodeAt s) (λ n p. statement_here n s p) (λ p. read_statement ns s p) (λ p. statement-code ns s p) most_statements [] at nil

-- ---- closing by the places of the statements

-- a check of the rules, and the code's of the same
passes : {A : Type 0} (b c : Bool) (r : R.Refusal) (p : ℕ) (g : Got A) → b ≡ c → Ok tt ≡ needed c (refusal_of r) p → need b r p g ≡ g
unfolding need
passes b c r p g h e = rw (h, needed-held c (refusal_of r) p e)

stops : {A : Type 0} (b c : Bool) (r : R.Refusal) (p : ℕ) (g : Got A) {f : Fault} → b ≡ c → Err f ≡ needed c (refusal_of r) p
    → need b r p g ≡ bad (rule_of f.refusal) f.place
unfolding need
stops b c r p g {f} h e =
    let w = needed-failed c (refusal_of r) p e in
    let k = fault-is r p w.1 in
    rw (h, w.0) (λ i. bad (k.0 i) (k.1 i))

last-passes : {A : Type 0} (s : Bytes) (xs : List Statement) (g : Got A) → Each (CodeAt s) xs → Ok tt ≡ last_at s (places_of xs) → last_halts xs g ≡ g
unfolding last_halts last_at
last-passes s [] g h e = refl
last-passes s (x ∷ []) g (p & h) e = passes (is_halt x.action) (eqb (byte s (x.place + 7)) 0) no_halt x.place g p.halts e
last-passes s (x ∷ y ∷ ys) g (p & h) e = last-passes s (y ∷ ys) g h e

last-stops : {A : Type 0} (s : Bytes) (xs : List Statement) (g : Got A) {f : Fault} → Each (CodeAt s) xs → Err f ≡ last_at s (places_of xs)
    → last_halts xs g ≡ bad (rule_of f.refusal) f.place
unfolding last_halts last_at
last-stops s [] g h e = absurd (cc)
last-stops s (x ∷ []) g (p & h) e = stops (is_halt x.action) (eqb (byte s (x.place + 7)) 0) no_halt x.place g p.halts e
last-stops s (x ∷ y ∷ ys) g (p & h) e = last-stops s (y ∷ ys) g h e

targets-pass : {A : Type 0} (s : Bytes) (n : ℕ) (xs : List Statement) (g : Got A) → Each (CodeAt s) xs → Ok tt ≡ targets_at s n (places_of xs)
    → targets_fit n xs g ≡ g
unfolding targets_fit targets_at
targets-pass s n [] g h e = refl
targets-pass s n (x ∷ xs) g (p & h) e = by (target_at s n x.place) refl e (targets-pass s n xs g h)
  where
    by : (b : Bool) → target_at s n x.place ≡ b → Ok tt ≡ (if b then targets_at s n (places_of xs) else Err (fault_at no_such_name x.place))
        → (Ok tt ≡ targets_at s n (places_of xs) → targets_fit n xs g ≡ g) → need (target_fits n x.action) no_such_name x.place (targets_fit n xs g) ≡ g
    by true t e i = passes (target_fits n x.action) true no_such_name x.place (targets_fit n xs g) (p.jumps n ∙ t) refl ∙ i e
    by false t e i = absurd (cc)

targets-stop : {A : Type 0} (s : Bytes) (n : ℕ) (xs : List Statement) (g : Got A) {f : Fault} → Each (CodeAt s) xs → Err f ≡ targets_at s n (places_of xs)
    → targets_fit n xs g ≡ bad (rule_of f.refusal) f.place
unfolding targets_fit targets_at
targets-stop s n [] g h e = absurd (cc)
targets-stop s n (x ∷ xs) g {f} (p & h) e = by (target_at s n x.place) refl e (targets-stop s n xs g h)
  where
    by : (b : Bool) → target_at s n x.place ≡ b → Err f ≡ (if b then targets_at s n (places_of xs) else Err (fault_at no_such_name x.place))
        → (Err f ≡ targets_at s n (places_of xs) → targets_fit n xs g ≡ bad (rule_of f.refusal) f.place)
        → need (target_fits n x.action) no_such_name x.place (targets_fit n xs g) ≡ bad (rule_of f.refusal) f.place
    by true t e i = passes (target_fits n x.action) true no_such_name x.place (targets_fit n xs g) (p.jumps n ∙ t) refl ∙ i e
    by false t e i = stops (target_fits n x.action) false no_such_name x.place (targets_fit n xs g) (p.jumps n ∙ t) e

module _ (s : Bytes) (xs : List Statement) (q : ℕ) (h : Each (CodeAt s) xs) where
  pub close-unhalted : {f : Fault} → Err f ≡ last_at s (places_of xs) → close (got xs q) ≡ bad (rule_of f.refusal) f.place
  unfolding close
  close-unhalted e = last-stops s xs (targets_fit (length xs) xs (got xs q)) h e

  module _ (a : Ok tt ≡ last_at s (places_of xs)) where
    pub close-untargeted : {f : Fault} → Err f ≡ targets_at s (length xs) (places_of xs) → close (got xs q) ≡ bad (rule_of f.refusal) f.place
    unfolding close
    close-untargeted e =
        last-passes s xs (targets_fit (length xs) xs (got xs q)) h a ∙ targets-stop s (length xs) xs (got xs q) h e

    pub close-whole : Ok tt ≡ targets_at s (length xs) (places_of xs) → close (got xs q) ≡ got xs q
    unfolding close
    close-whole e =
        last-passes s xs (targets_fit (length xs) xs (got xs q)) h a ∙ targets-pass s (length xs) xs (got xs q) h e

-- ---- closing gives back what it was given

pub need-gives : {A : Type 0} (b : Bool) (r : R.Refusal) (at : ℕ) (g : Got A) (a : A) (q : ℕ) → need b r at g ≡ got a q → g ≡ got a q
unfolding need
need-gives true r at g a q e = e
need-gives false r at g a q e = let z : ◌≡◌ {A = ℕ} 0 1 = cc in absurd (omega arith)

pub last-gives : {A : Type 0} (xs : List Statement) (g : Got A) (a : A) (q : ℕ) → last_halts xs g ≡ got a q → g ≡ got a q
unfolding last_halts
last-gives [] g a q e = e
last-gives (x ∷ []) g a q e = need-gives (is_halt x.action) no_halt x.place g a q e
last-gives (x ∷ y ∷ ys) g a q e = last-gives (y ∷ ys) g a q e

pub targets-give : {A : Type 0} (n : ℕ) (xs : List Statement) (g : Got A) (a : A) (q : ℕ) → targets_fit n xs g ≡ got a q → g ≡ got a q
unfolding targets_fit
targets-give n [] g a q e = e
targets-give n (x ∷ xs) g a q e = targets-give n xs g a q (need-gives (target_fits n x.action) no_such_name x.place (targets_fit n xs g) a q e)

pub close-gives : (xs : List Statement) (q : ℕ) (ys : List Statement) (e : ℕ) → close (got xs q) ≡ got ys e → got xs q ≡ got ys e
unfolding close
close-gives xs q ys e f = targets-give (length xs) xs (got xs q) ys e (last-gives xs (targets_fit (length xs) xs (got xs q)) ys e f)
