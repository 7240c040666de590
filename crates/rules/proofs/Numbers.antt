-- Which refusals a reading gives: what holds of the refusal in every check holds of the refusal that is given. A sheet that does not read
-- is refused with a number from 1 to 9.
use Rattle.std.specs.Prelude.{if◌then◌else◌}
use mathlib.Core.Path.{◌≡◌, subst}
use mathlib.Core.Bool.{Bool, true, false, not}
use mathlib.Core.List.{List, [], ◌∷◌, ◌++◌}
use Prim.Native.Nat.{ℕ, zero, suc, ◌+◌, ◌≤◌}
use native.Mathlib.Decide.{ℕ_discrete}
use native.Mathlib.Omega.{arith}
use lib.Dec.{T, leb, eqb, leb→le}
use lib.ListN.{length}
use Rattle.rules.specs.Refusal.{Refusal, number, short, out_of_turn, bad_length, off_range, no_such_name, bad_expression, no_halt, too_many, too_long}
use Rattle.rules.specs.Constants.{deepest, most_variables, most_registers, most_statements, most_threads}
use Rattle.rules.specs.Interval.{Interval, Operator}
use Rattle.rules.specs.Program.{Arith, operation, Condition, conjunction, halt, skip, is_halt, Statement}
use Rattle.rules.specs.Format.{Bytes, Got, bad, got, and_then, need, map_got, byte, has_head, due, sized, Here, wrong, more, done, on_here, read_many, read_range, variable_here, read_variables, read_registers}
use Rattle.rules.specs.Format.{ArithKind, a_constant, a_register, unknown, an_operator, arith_at, read_constant, read_register, on_arith, read_arith, ConditionKind, leaf, a_negation, a_conjunction, unknown_condition, comparison, condition_at, on_condition, read_condition}
use Rattle.rules.specs.Format.{exactly, Names, read_action, read_contents, read_statement, statement_here, read_statements, last_halts, target_fits, targets_fit, close, read_thread, thread_here, read_threads, read_header, read_locks, read_sheet}
use Rattle.rules.proofs.Base.{if-ind}
use Rattle.rules.proofs.Refusal.{positive}

-- ---- a property of the refusal, carried through the readers' connectives

abbrev pub Refuses : {A : Type 0} → (Refusal → Type 0) → Got A → Type 0
Refuses P (bad r p) = P r
Refuses P (got a q) = Unit {0}

module _ (P : Refusal → Type 0) where
  pub need-refuses : {A : Type 0} (b : Bool) (r : Refusal) (at : ℕ) (g : Got A) → P r → Refuses P g → Refuses P (need b r at g)
  unfolding need
  need-refuses true r at g p h = h
  need-refuses false r at g p h = p

  pub then-refuses : {A B : Type 0} (g : Got A) (f : A → ℕ → Got B) → Refuses P g → ((a : A) (q : ℕ) → Refuses P (f a q)) → Refuses P (and_then g f)
  unfolding and_then
  then-refuses (bad r p) f h k = h
  then-refuses (got a q) f h k = k a q

  pub map-refuses : {A B : Type 0} (f : A → B) (g : Got A) → Refuses P g → Refuses P (map_got f g)
  unfolding map_got
  map-refuses f (bad r p) h = h
  map-refuses f (got a q) h = tt

  pub due-refuses : {A : Type 0} (tag : ℕ) (s : Bytes) (at : ℕ) (g : Got A) → P short → P out_of_turn → Refuses P g → Refuses P (due tag s at g)
  unfolding due
  due-refuses tag s at g a b h = need-refuses _ short at _ a (need-refuses _ out_of_turn at g b h)

  pub sized-refuses : {A : Type 0} (s : Bytes) (at n : ℕ) (ok : Bool) (a : A) → P short → P bad_length → P off_range → Refuses P (sized s at n ok a)
  unfolding sized
  sized-refuses s at n ok a x y z = need-refuses _ short at _ x (need-refuses _ bad_length at _ y (need-refuses ok off_range at _ z tt))

-- ---- 1 to 9

abbrev OfReading : Refusal → Type 0
OfReading r = T (leb (number r) 9)

abbrev Nine : {A : Type 0} → Got A → Type 0
Nine g = Refuses OfReading g

nine-need : {A : Type 0} (b : Bool) (r : Refusal) (at : ℕ) (g : Got A) → OfReading r → Nine g → Nine (need b r at g)
nine-need b r at g p h = need-refuses OfReading b r at g p h

nine-then : {A B : Type 0} (g : Got A) (f : A → ℕ → Got B) → Nine g → ((a : A) (q : ℕ) → Nine (f a q)) → Nine (and_then g f)
nine-then g f h k = then-refuses OfReading g f h k

nine-map : {A B : Type 0} (f : A → B) (g : Got A) → Nine g → Nine (map_got f g)
nine-map f g h = map-refuses OfReading f g h

nine-due : {A : Type 0} (tag : ℕ) (s : Bytes) (at : ℕ) (g : Got A) → Nine g → Nine (due tag s at g)
nine-due tag s at g h = due-refuses OfReading tag s at g tt tt h

nine-sized : {A : Type 0} (s : Bytes) (at n : ℕ) (ok : Bool) (a : A) → Nine (sized s at n ok a)
nine-sized s at n ok a = sized-refuses OfReading s at n ok a tt tt tt

-- ---- several of a kind

abbrev HereNine : Here → Type 0
HereNine (wrong r) = OfReading r
HereNine more = Unit {0}
HereNine done = Unit {0}

nine-here : {A : Type 0} (at : ℕ) (w : Here) (x y : Got A) → HereNine w → Nine x → Nine y → Nine (on_here at w x y)
unfolding on_here
nine-here at (wrong r) x y h a b = h
nine-here at more x y h a b = a
nine-here at done x y h a b = b

nine-many : {A : Type 0} (here : ℕ → ℕ → Here) (one : ℕ → Got A) → ((n p : ℕ) → HereNine (here n p)) → ((p : ℕ) → Nine (one p))
    → (k : ℕ) (xs : List A) (at : ℕ) → Nine (read_many here one k xs at)
unfolding read_many
nine-many here one f h zero xs at = nine-here at (here (length xs) at) (bad too_many at) (got xs at) (f (length xs) at) tt tt
nine-many here one f h (suc k) xs at =
    nine-here at (here (length xs) at) (and_then (one at) (λ x q. read_many here one k (xs ++ x ∷ []) q)) (got xs at) (f (length xs) at)
    (nine-then (one at) (λ x q. read_many here one k (xs ++ x ∷ []) q) (h at) (λ x q. nine-many here one f h k (xs ++ x ∷ []) q)) tt

-- what stands at a place is wrong by 1 or 2, or more, or no more
here-if : (b : Bool) (x y : Here) → HereNine x → HereNine y → HereNine (if b then x else y)
here-if true x y h k = h
here-if false x y h k = k

module _ (s : Bytes) where
  -- ---- ranges

  nine-range : (at : ℕ) → Nine (read_range s at)
  unfolding read_range
  nine-range at = nine-sized s at 8 _ _

  nine-variables : (at : ℕ) → Nine (read_variables s at)
  unfolding read_variables variable_here
  nine-variables at =
      nine-many (λ n p. variable_here s p) (λ p. read_range s p)
      (λ n p. here-if (not (has_head s p)) (wrong short) _ tt (here-if (eqb (byte s p) 2) more _ tt (here-if (eqb (byte s p) 4) done (wrong out_of_turn) tt tt)))
      nine-range most_variables [] at

  nine-registers : (k : ℕ) (rs : List Interval) (at : ℕ) → Nine (read_registers k rs s at)
  unfolding read_registers
  nine-registers zero rs at = tt
  nine-registers (suc k) rs at =
      nine-then (due 5 s at (read_range s at)) (λ i q. read_registers k (rs ++ i ∷ []) s q) (nine-due 5 s at _ (nine-range at))
      (λ i q. nine-registers k (rs ++ i ∷ []) q)

  -- ---- expressions

  on-arith : (h : ArithKind) (c r : Got Arith) (f : Operator → Got Arith) (u : Got Arith) → Nine c → Nine r
      → ((o : Operator) → Nine (f o)) → Nine u → Nine (on_arith h c r f u)
  unfolding on_arith
  on-arith a_constant c r f u a b k d = a
  on-arith a_register c r f u a b k d = b
  on-arith (an_operator o) c r f u a b k d = k o
  on-arith unknown c r f u a b k d = d

  -- two operands, one behind the other
  nine-both : {A B : Type 0} (one : ℕ → Got A) (f : A → A → B) (p : ℕ) → ((q : ℕ) → Nine (one q))
      → Nine (and_then (one p) (λ a q. and_then (one q) (λ b r. got (f a b) r)))
  nine-both one f p h = nine-then (one p) _ (h p) (λ a q. nine-then (one q) _ (h q) (λ b r. tt))

  nine-arith : (d e n p : ℕ) → Nine (read_arith d s e n p)
  unfolding read_arith
  nine-arith zero e n p = tt
  nine-arith (suc d) e n p =
      on-arith (arith_at s e p) (read_constant s e (p + 1)) (read_register s e n (p + 1)) _ (bad bad_expression p)
      (unfold read_constant in nine-need _ bad_expression (p + 1) _ tt tt)
      (unfold read_register in nine-need _ bad_expression (p + 1) _ tt (nine-need _ no_such_name (p + 1) _ tt tt))
      (λ o. nine-both (λ q. read_arith d s e n q) (operation o) (p + 1) (λ q. nine-arith d e n q)) tt

  on-condition : (h : ConditionKind) (l : Condition → Got Condition) (n a : Unit {0} → Got Condition)
      (f : (Arith → Arith → Condition) → Got Condition) (u : Got Condition) → ((c : Condition) → Nine (l c)) → Nine (n tt) → Nine (a tt) → ((o : Arith → Arith → Condition) → Nine (f o)) → Nine u → Nine (on_condition h l n a f u)
  unfolding on_condition
  on-condition (leaf c) l n a f u v w x y z = v c
  on-condition a_negation l n a f u v w x y z = w
  on-condition a_conjunction l n a f u v w x y z = x
  on-condition (comparison o) l n a f u v w x y z = y o
  on-condition unknown_condition l n a f u v w x y z = z

  nine-condition : (d e n p : ℕ) → Nine (read_condition d s e n p)
  unfolding read_condition
  nine-condition zero e n p = tt
  nine-condition (suc d) e n p =
      on-condition (condition_at s e p) _ _ _ _ (bad bad_expression p) (λ c. tt)
      (nine-then (read_condition d s e n (p + 1)) _ (nine-condition d e n (p + 1)) (λ c q. tt))
      (nine-both (λ q. read_condition d s e n q) conjunction (p + 1) (λ q. nine-condition d e n q))
      (λ f. nine-both (λ q. read_arith d s e n q) f (p + 1) (λ q. nine-arith d e n q)) tt

  nine-exactly : {A : Type 0} (at e : ℕ) (g : Got A) → Nine g → Nine (exactly at e g)
  unfolding exactly
  nine-exactly at e (bad r p) h = h
  nine-exactly at e (got a q) h = nine-need (eqb q e) bad_expression at (got a q) tt tt

  -- ---- statements

  nine-if : {A : Type 0} (b : Bool) (x y : Got A) → Nine x → Nine y → Nine (if b then x else y)
  nine-if b x y h k = if-ind b x y Nine (λ _. h) (λ _. k)

  nine-action : (c : ℕ) (names : Names) (at e p : ℕ) → Nine (read_action c names s at e p)
  unfolding read_action
  nine-action c names at e p =
      nine-if (eqb c 0) (got halt e) _ tt (nine-if (eqb c 1) (got skip e) _ tt
      (nine-if (eqb c 2) _ _ (nine-need _ no_such_name at _ tt (nine-map _ _ (nine-exactly at e _ (nine-arith deepest e names.regs (p + 1)))))
      (nine-if (eqb c 3) _ _ (nine-map _ _ (nine-exactly at e _ (nine-condition deepest e names.regs (p + 1))))
      (nine-if (eqb c 4) _ _ (nine-need _ no_such_name at _ tt tt) (nine-if (eqb c 5) _ _ (nine-need _ no_such_name at _ tt tt)
      (nine-if (eqb c 6) _ _ (nine-need _ no_such_name at _ tt tt) (nine-need _ no_such_name at _ tt tt)))))))

  nine-statement : (names : Names) (at : ℕ) → Nine (read_statement names s at)
  unfolding read_statement read_contents
  nine-statement names at =
      nine-need _ short at _ tt (nine-need _ bad_length at _ tt (nine-need _ off_range at _ tt (nine-need _ bad_length at _ tt (nine-need _ off_range at _ tt
      (nine-map _ _ (nine-action (byte s (at + 7)) names at _ (at + 8)))))))

  statement-here : (n p : ℕ) → HereNine (statement_here n s p)
  unfolding statement_here
  statement-here zero p = here-if (not (has_head s p)) (wrong short) _ tt (here-if (eqb (byte s p) 6) more (wrong out_of_turn) tt tt)
  statement-here (suc n) p =
      here-if (eqb p (length s)) done _ tt (here-if (not (has_head s p)) (wrong short) _ tt
      (here-if (eqb (byte s p) 6) more _ tt (here-if (eqb (byte s p) 4) done (wrong out_of_turn) tt tt)))

  nine-halts : {A : Type 0} (xs : List Statement) (g : Got A) → Nine g → Nine (last_halts xs g)
  unfolding last_halts
  nine-halts [] g h = h
  nine-halts (x ∷ []) g h = nine-need (is_halt x.action) no_halt x.place g tt h
  nine-halts (x ∷ y ∷ ys) g h = nine-halts (y ∷ ys) g h

  nine-targets : {A : Type 0} (n : ℕ) (xs : List Statement) (g : Got A) → Nine g → Nine (targets_fit n xs g)
  unfolding targets_fit
  nine-targets n [] g h = h
  nine-targets n (x ∷ xs) g h = nine-need (target_fits n x.action) no_such_name x.place (targets_fit n xs g) tt (nine-targets n xs g h)

  nine-close : (g : Got (List Statement)) → Nine g → Nine (close g)
  unfolding close
  nine-close (bad r p) h = h
  nine-close (got xs q) h = nine-halts xs _ (nine-targets (length xs) xs (got xs q) tt)

  -- ---- threads and the whole

  nine-thread : (vars locks at : ℕ) → Nine (read_thread vars locks s at)
  unfolding read_thread read_statements
  nine-thread vars locks at =
      let n = byte s (at + 3) in
      let names : Names = record { regs = n; vars = vars; locks = locks } in
      nine-then (sized s at 1 (leb n most_registers) n) _ (nine-sized s at 1 _ n) (λ _ p.
      nine-then (read_registers n [] s p) _ (nine-registers n [] p) (λ rs q.
      nine-then (close (read_statements names s q)) _
      (nine-close (read_statements names s q)
      (nine-many (λ n p. statement_here n s p) (λ p. read_statement names s p) statement-here (nine-statement names) most_statements [] q))
      (λ xs r. tt)))

  pub nine-sheet : Nine (read_sheet s)
  unfolding read_sheet read_header read_locks read_threads thread_here
  nine-sheet =
      nine-need _ too_long 0 _ tt (
      nine-then (read_header s) _ (nine-due 1 s 0 _ (nine-sized s 0 16 _ _)) (λ h p.
      nine-then (read_locks s p) _ (nine-due 3 s p _ (nine-sized s p 1 _ _)) (λ k q.
      nine-then (read_variables s q) _ (nine-variables q) (λ vs r.
      nine-then (read_threads (length vs) k s r) _
      (nine-many (λ n p. thread_here s p) (λ p. read_thread (length vs) k s p) (λ n p. here-if (eqb p (length s)) done more tt tt)
      (λ p. nine-thread (length vs) k p) most_threads [] r)
      (λ ts e. tt)))))

pub sheet-refusals : (s : Bytes) (r : Refusal) (p : ℕ) → read_sheet s ≡ bad r p → T (leb (number r) 9)
sheet-refusals s r p e = subst Nine e (nine-sheet s)

pub of_reader : (s : Bytes) (r : Refusal) (p : ℕ) → read_sheet s ≡ bad r p → (1 ≤ number r) × (number r ≤ 9)
of_reader s r p e = (some, leb→le (number r) 9 (sheet-refusals s r p e))
  where
    some : 1 ≤ number r
    some = elim (ℕ_discrete (number r) 0) [ yes z ↦ absurd (positive r z) | no z ↦ omega arith ]
