-- "A sheet that reads well is copied with no changes listed.": each field that the reader reads is one that the walk copies, and
-- a thread that the reader closes has its halt.
use Rattle.std.specs.Prelude.{if◌then◌else◌}
use mathlib.Core.Path.{◌≡◌, refl, sym, subst}
use mathlib.Core.Bool.{Bool, true, false, ◌&&◌, ◌||◌, not}
use mathlib.Core.Option.{Option, none}
use mathlib.Core.List.{List, [], ◌∷◌}
use Prim.Native.Nat.{ℕ, zero, suc, ◌+◌, ◌≤◌, ◌<◌}
use native.Mathlib.Omega.{arith}
use lib.Dec.{T, leb, ltb, eqb, leb→le, eqb→eq}
use lib.ListN.{length}
use Rattle.rules.specs.Base.{Each, nil, ◌&◌}
use Rattle.rules.specs.Refusal.{short, bad_length, off_range, no_such_name, no_halt, too_long}
use Rattle.rules.specs.Constants.{longest_sheet, deepest, most_registers, most_statements, most_threads}
use Rattle.rules.specs.Program.{Arith, Condition, Action, is_halt, Statement, Thread, Program}
use Rattle.rules.specs.Format.{Bytes, Got, bad, got, byte, num16, has_head, has_body, sized, done, more, read_header, read_locks, read_variables, read_registers, read_arith, read_condition, length_fits, times_fit, Names, read_action, read_contents, read_statement, statement_here, read_statements, last_halts, target_fits, targets_fit, close, read_thread, thread_here, read_threads, read_sheet}
use Rattle.rules.proofs.Base.{and_right}
use Rattle.rules.proofs.IfAt.{IfAt, need-at, then_at, map_at, exactly-at, weaker-at, when-got, many-at}
use Rattle.rules.proofs.Format.{times-in-order}
use Rattle.rules.proofs.FieldAt.{sized-field}
use Rattle.rules.proofs.Row.{Row, end, next, RowBehind, many-row}
use Rattle.rules.proofs.StatementRow.{when-more}
use Rattle.mended.specs.Mend.{copied, open_after, closes_at, mended}
use Rattle.mended.proofs.Walk.{reversed-cases}
use Rattle.mended.proofs.CopiedFields.{Copies, Through, copies-end, copies-field, not-open, through-short, header-through, locks-through, variables-through, registers-through}

-- ---- an action ends where its field does, and halt has code 0

abbrev ActionSays : ℕ → ℕ → Action → ℕ → Type 0
ActionSays c e a q = (q ≡ e) × (T (is_halt a) → c ≡ 0)

action-says : (c : ℕ) → c ≤ 7 → (ns : Names) (s : Bytes) (at e p : ℕ) → IfAt (ActionSays c e) (read_action c ns s at e p)
unfolding read_action is_halt
action-says zero h ns s at e p = (refl, λ _. refl)
action-says (suc zero) h ns s at e p = (refl, λ u. absurd u)
action-says (suc (suc zero)) h ns s at e p =
    need-at _ (ltb (byte s p) ns.regs) no_such_name at _ (λ _.
    map_at (λ (a : Arith) (q : ℕ). (q ≡ e) × (read_arith deepest s e ns.regs (p + 1) ≡ got a q)) _ _ _ (exactly-at at e (read_arith deepest s e ns.regs (p + 1)))
    (λ a q w. (w.0, λ u. absurd u)))
action-says (suc (suc (suc zero))) h ns s at e p =
    map_at (λ (a : Condition) (q : ℕ). (q ≡ e) × (read_condition deepest s e ns.regs (p + 1) ≡ got a q)) _ _ _ (exactly-at at e (read_condition deepest s e ns.regs (p + 1)))
    (λ a q w. (w.0, λ u. absurd u))
action-says (suc (suc (suc (suc zero)))) h ns s at e p = need-at _ (ltb (byte s p) ns.regs && ltb (byte s (p + 1)) ns.vars) no_such_name at _ (λ _. (refl, λ u. absurd u))
action-says (suc (suc (suc (suc (suc zero))))) h ns s at e p = need-at _ (ltb (byte s p) ns.regs && ltb (byte s (p + 1)) ns.vars) no_such_name at _ (λ _. (refl, λ u. absurd u))
action-says (suc (suc (suc (suc (suc (suc zero)))))) h ns s at e p = need-at _ (ltb (byte s p) ns.locks) no_such_name at _ (λ _. (refl, λ u. absurd u))
action-says (suc (suc (suc (suc (suc (suc (suc zero))))))) h ns s at e p = need-at _ (ltb (byte s p) ns.locks) no_such_name at _ (λ _. (refl, λ u. absurd u))
action-says (suc (suc (suc (suc (suc (suc (suc (suc c)))))))) h ns s at e p = absurd (omega arith)

module _ (s : Bytes) where
  -- ---- statements

  -- no thread closes at a statement
  statement-inside : (at : ℕ) → byte s at ≡ 6 → at < length s → T (closes_at s at) → ⊥
  unfolding closes_at
  statement-inside at tag h =
      cases (leb (length s) at) (has_head s at && eqb (byte s at) 4)
      (λ t. let l = leb→le (length s) at t in omega arith) (λ t. let u = eqb→eq (byte s at) 4 (and_right (has_head s at) (eqb (byte s at) 4) t) in omega arith)
    where
      cases : (a b : Bool) → (T a → ⊥) → (T b → ⊥) → T (a || b) → ⊥
      cases true b f g t = f t
      cases false b f g t = g t

  -- a halt wants none behind it
  abbrev Shut : Statement → Type 0
  Shut x = T (is_halt x.action) → open_after s x.place ≡ none

  statement-through : (ns : Names) (last : Option ℕ) (at : ℕ) → byte s at ≡ 6 → IfAt (λ x q. Shut x × Through s last at (open_after s x.place) q) (read_statement ns s at)
  unfolding read_statement read_contents has_body
  statement-through ns last at tag =
      let n = num16 s (at + 1) in
      let c = byte s (at + 7) in
      let e = at + 3 + n in
      let P : Statement → ℕ → Type 0 = λ x q. Shut x × Through s last at (open_after s x.place) q in
      need-at P (leb e (length s)) short at _ (λ h.
      need-at P (leb 5 n) bad_length at _ (λ _.
      need-at P (leb c 7) off_range at _ (λ known.
      need-at P (length_fits c n) bad_length at _ (λ _.
      need-at P (times_fit c (num16 s (at + 3)) (num16 s (at + 5))) off_range at _ (λ t.
      map_at (ActionSays c e) P _ (read_action c ns s at e (at + 8)) (action-says c (leb→le c 7 known) ns s at e (at + 8)) (λ a q w.
      let l = leb→le e (length s) h in
      let o = times-in-order c (num16 s (at + 3)) (num16 s (at + 5)) t in (
        λ z. not-open s at (λ _ _ u. subst (λ (m : ℕ). T (not (eqb m 0))) (w.1 z) u),
        λ copies. copies-field s at last l (reversed-cases s at ⊥ (λ m _ _. omega arith) (λ m _ _. m 6 tag) (λ _ _ m. omega arith))
            (λ z. absurd (statement-inside at tag (omega arith) z)) (subst (Copies s (open_after s at)) w.0 copies),
      )))))))

  -- the one that may want a halt behind those read
  abbrev last_open : Option ℕ → List Statement → Option ℕ
  last_open last [] = last
  last_open last (x ∷ xs) = last_open (open_after s x.place) xs

  statements-row : (ns : Names) {n p : ℕ} {xs : List Statement} {q : ℕ} → Row (λ n p. statement_here n s p) (λ p. read_statement ns s p) n p xs q
      → (last : Option ℕ) → Each Shut xs × Through s last p (last_open last xs) q
  statements-row ns (end d) last = (nil, λ c. c)
  statements-row ns {n = n} {p = p} (next {q = q} {x = x} m e r) last =
      let P : Statement → ℕ → Type 0 = λ x q. Shut x × Through s last p (open_after s x.place) q in
      let here = when-got P (read_statement ns s p) (statement-through ns last p (when-more s n p m)) x q e in
      let rest = statements-row ns r (open_after s x.place) in
      (here.0 & rest.0, λ c. here.1 (rest.1 c))

  -- ---- threads

  -- a thread that the reader closes wants no halt
  halts_at : {A : Type 0} (P : A → ℕ → Type 0) (xs : List Statement) (g : Got A) → Each Shut xs → (last_open none xs ≡ none → IfAt P g) → IfAt P (last_halts xs g)
  unfolding last_halts
  halts_at P [] g h k = k refl
  halts_at P (x ∷ []) g (p & h) k = need-at P (is_halt x.action) no_halt x.place g (λ t. k (p t))
  halts_at P (x ∷ y ∷ ys) g (p & h) k = halts_at P (y ∷ ys) g h k

  targets-at : {A : Type 0} (P : A → ℕ → Type 0) (n : ℕ) (xs : List Statement) (g : Got A) → IfAt P g → IfAt P (targets_fit n xs g)
  unfolding targets_fit
  targets-at P n [] g h = h
  targets-at P n (x ∷ xs) g h = need-at P (target_fits n x.action) no_such_name x.place (targets_fit n xs g) (λ _. targets-at P n xs g h)

  closed : (ns : Names) (at : ℕ) (g : Got (List Statement)) → IfAt (RowBehind (λ n p. statement_here n s p) (λ p. read_statement ns s p) most_statements [] at) g
      → IfAt (λ _ q. Through s none at none q) (close g)
  unfolding close
  closed ns at (bad r p) b = tt
  closed ns at (got xs q) b =
      let P : List Statement → ℕ → Type 0 = λ _ q. Through s none at none q in
      let row = statements-row ns (subst (λ l. Row (λ n p. statement_here n s p) (λ p. read_statement ns s p) 0 at l q) (sym b.all) b.reads) none in
      halts_at P xs (targets_fit (length xs) xs (got xs q)) row.0 (λ shut.
      targets-at P (length xs) xs (got xs q) (λ c. row.1 (subst (λ (l : Option ℕ). Copies s l q) (sym shut) c)))

  statements-through : (ns : Names) (at : ℕ) → IfAt (λ _ q. Through s none at none q) (close (read_statements ns s at))
  unfolding read_statements
  statements-through ns at = closed ns at (read_statements ns s at) (many-row (λ n p. statement_here n s p) (λ p. read_statement ns s p) most_statements [] at)

  thread-through : (vars locks at : ℕ) → IfAt (λ _ q. Through s none at none q) (read_thread vars locks s at)
  unfolding read_thread
  thread-through vars locks at =
      let n = byte s (at + 3) in
      let ns : Names = record { regs = n; vars = vars; locks = locks } in
      let P : Thread → ℕ → Type 0 = λ _ q. Through s none at none q in
      let Q : ℕ → ℕ → Type 0 = λ _ q. Through s none at none q in
      then_at Q P (sized s at 1 (leb n most_registers) n) _
      (sized-field Q (byte s at) 1 s at (leb n most_registers) n refl (λ f _. through-short s at f.size_is f.fits)) (λ _ p t.
      then_at (λ _ q. Through s none p none q) P (read_registers n [] s p) _ (registers-through s n [] p) (λ rs q u.
      then_at (λ _ r. Through s none q none r) P (close (read_statements ns s q)) _ (statements-through ns q) (λ xs r v.
      λ c. t (u (v c)))))

  thread-end : (q : ℕ) → thread_here s q ≡ done → q ≡ length s
  unfolding thread_here
  thread-end q e = by (eqb q (length s)) (λ t. eqb→eq q (length s) t) e
    where
      by : (b : Bool) → (T b → q ≡ length s) → (if b then done else more) ≡ done → q ≡ length s
      by true f e = f tt
      by false f e = let z : ◌≡◌ {A = ℕ} 0 1 = cc in absurd (omega arith)

  threads-copied : (vars locks at : ℕ) → IfAt (λ _ _. Copies s none at) (read_threads vars locks s at)
  unfolding read_threads
  threads-copied vars locks at =
      let I : List Thread → ℕ → Type 0 = λ _ q. Through s none at none q in
      weaker-at (λ ts q. I ts q × (thread_here s q ≡ done)) (λ (_ : List Thread) (_ : ℕ). Copies s none at) (read_threads vars locks s at)
      (many-at I (λ n p. thread_here s p) (λ p. read_thread vars locks s p) (λ ts p t.
      weaker-at (λ _ q. Through s none p none q) (λ _ q. Through s none at none q) (read_thread vars locks s p) (thread-through vars locks p) (λ _ q u c. t (u c))) most_threads [] at (λ c. c))
      (λ ts q w. w.0 (copies-end s q (thread-end q w.1)))

  -- ---- the sheet

  fields_copied : IfAt (λ _ _. Copies s none 0) (read_sheet s)
  unfolding read_sheet
  fields_copied =
      let P : Program → ℕ → Type 0 = λ _ _. Copies s none 0 in
      need-at P (leb (length s) longest_sheet) too_long 0 _ (λ _.
      then_at (λ _ p. Through s none 0 none p) P (read_header s) _ (header-through s) (λ h p a.
      then_at (λ _ q. Through s none p none q) P (read_locks s p) _ (locks-through s p) (λ k q b.
      then_at (λ _ r. Through s none q none r) P (read_variables s q) _ (variables-through s q) (λ vs r c.
      then_at (λ _ _. Copies s none r) P (read_threads (length vs) k s r) _ (threads-copied (length vs) k r) (λ ts e d.
      a (b (c d)))))))

pub reads-copied : (s : Bytes) (g : Program) (e : ℕ) → read_sheet s ≡ got g e → mended s ≡ copied s
unfolding mended
reads-copied s g e q = when-got (λ (_ : Program) (_ : ℕ). Copies s none 0) (read_sheet s) (fields_copied s) g e q
