-- What is read from a place on depends on the bytes from there on: statements and threads.
use Rattle.std.specs.Prelude.{if◌then◌else◌}
use mathlib.Core.Path.{◌≡◌, refl, ap, subst}
use mathlib.Core.List.{[]}
use Prim.Native.Nat.{ℕ, zero, suc, ◌+◌, ◌≤◌}
use native.Mathlib.Omega.{arith}
use lib.Dec.{leb, ltb, eqb}
use Rattle.rules.specs.Refusal.{short, bad_length, off_range, no_such_name}
use Rattle.rules.specs.Constants.{deepest, most_registers, most_threads, most_statements}
use Rattle.rules.specs.Program.{assign, branch}
use Rattle.rules.specs.Format.{Bytes, byte, num16, has_body, more, done, read_registers, read_arith, read_condition, Names, read_action, read_contents, read_statement, statement_here, read_statements, close, read_thread, thread_here, read_threads}
use Rattle.rules.proofs.Alike.{Alike, need-alike, if_alike, then-alike, map-alike, exactly-alike, many-alike, close-alike}
use Rattle.rules.proofs.AlikeFields.{SameFrom, num16-same, head-same, body_same, sized-alike, registers-alike, arith_alike, condition-alike}

module _ (k : ℕ) (s t : Bytes) (agree : SameFrom k s t) where
  -- ---- statements

  action-alike : (c : ℕ) (names : Names) (at e p : ℕ) → k ≤ p → k ≤ e → Alike k (read_action c names s at e p) (read_action c names t at e p)
  unfolding read_action
  action-alike c names at e p l l' =
      let n = names.regs in
      let x = agree.same p l in
      let y = agree.same (p + 1) (omega arith) in
      if_alike k (eqb c 0) _ _ _ _ (refl, l')
      (if_alike k (eqb c 1) _ _ _ _ (refl, l')
      (if_alike k (eqb c 2) _ _ _ _
      (need-alike k _ _ (ap (λ (b : ℕ). ltb b n) x) no_such_name at _ _ (map-alike k _ _ (λ i a. assign (x i) a) _ _
      (exactly-alike k at e (read_arith deepest s e n (p + 1)) (read_arith deepest t e n (p + 1)) (arith_alike k s t agree deepest e n (p + 1) (omega arith)))))
      (if_alike k (eqb c 3) _ _ _ _
      (map-alike k _ _ (λ i c. branch (x i) c) _ _
      (exactly-alike k at e (read_condition deepest s e n (p + 1)) (read_condition deepest t e n (p + 1)) (condition-alike k s t agree deepest e n (p + 1) (omega arith))))
      (if_alike k (eqb c 4) _ _ _ _ (need-alike k _ _ (cc) no_such_name at _ _ ((cc), l'))
      (if_alike k (eqb c 5) _ _ _ _ (need-alike k _ _ (cc) no_such_name at _ _ ((cc), l'))
      (if_alike k (eqb c 6) _ _ _ _ (need-alike k _ _ (cc) no_such_name at _ _ ((cc), l'))
      (need-alike k _ _ (cc) no_such_name at _ _ ((cc), l'))))))))

  contents-alike : (names : Names) (at : ℕ) → k ≤ at → Alike k (read_contents names s at) (read_contents names t at)
  unfolding read_contents
  contents-alike names at l =
      let n = num16-same k s t agree (at + 1) (omega arith) in
      let least = num16-same k s t agree (at + 3) (omega arith) in
      let greatest = num16-same k s t agree (at + 5) (omega arith) in
      let code = agree.same (at + 7) (omega arith) in
      let e = at + 3 + num16 s (at + 1) in
      need-alike k _ _ (cc) bad_length at _ _ (need-alike k _ _ (cc) off_range at _ _ (need-alike k _ _ (cc) bad_length at _ _ (need-alike k _ _ (cc) off_range at _ _
      (map-alike k _ _ (λ i o. record { place = at; least = least i; greatest = greatest i; action = o }) _ _
      (subst (λ (c : ℕ). Alike k (read_action (byte s (at + 7)) names s at e (at + 8)) (read_action c names t at (at + 3 + num16 t (at + 1)) (at + 8))) code
      (subst (λ (m : ℕ). Alike k (read_action (byte s (at + 7)) names s at e (at + 8)) (read_action (byte s (at + 7)) names t at (at + 3 + m) (at + 8))) n
      (action-alike (byte s (at + 7)) names at e (at + 8) (omega arith) (omega arith))))))))

  statement-here : (n at : ℕ) → k ≤ at → statement_here n s at ≡ statement_here n t at
  unfolding statement_here
  statement-here zero at l = let a = head-same k s t agree at in let b = agree.same at l in cc
  statement-here (suc n) at l = let a = head-same k s t agree at in let b = agree.same at l in let c = agree.same_length in cc

  statements-alike : (names : Names) (at : ℕ) → k ≤ at → Alike k (read_statements names s at) (read_statements names t at)
  unfolding read_statements read_statement
  statements-alike names at l =
      many-alike k (λ n p. statement_here n s p) (λ n p. statement_here n t p) (λ p. read_statement names s p) (λ p. read_statement names t p) statement-here
      (λ p l'. need-alike k (has_body s p) (has_body t p) (body_same k s t agree p l') short p (read_contents names s p) (read_contents names t p) (contents-alike names p l')) most_statements [] at l

  -- ---- threads

  thread-alike : (vars locks at : ℕ) → k ≤ at → Alike k (read_thread vars locks s at) (read_thread vars locks t at)
  unfolding read_thread
  thread-alike vars locks at l =
      let n = byte s (at + 3) in
      let same = agree.same (at + 3) (omega arith) in
      let names : ℕ → Names = λ m. record { regs = m; vars = vars; locks = locks } in
      then-alike k _ _ _ _ (sized-alike k s t agree at 1 l _ _ (ap (λ (m : ℕ). leb m most_registers) same) _ _ same) (λ _ p l₁.
      then-alike k _ _ _ _ (subst (λ (m : ℕ). Alike k (read_registers n [] s p) (read_registers m [] t p)) same (registers-alike k s t agree n [] p l₁)) (λ rs q l₂.
      then-alike k _ _ _ _ (subst (λ (m : ℕ). Alike k (close (read_statements (names n) s q)) (close (read_statements (names m) t q))) same
      (close-alike k (read_statements (names n) s q) (read_statements (names n) t q) (statements-alike (names n) q l₂)))
      (λ xs r l₃. (refl, l₃))))

  pub threads-alike : (vars locks at : ℕ) → k ≤ at → Alike k (read_threads vars locks s at) (read_threads vars locks t at)
  unfolding read_threads thread_here
  threads-alike vars locks at l =
      many-alike k (λ n p. thread_here s p) (λ n p. thread_here t p) (λ p. read_thread vars locks s p) (λ p. read_thread vars locks t p)
      (λ n p l'. ap (λ (m : ℕ). if eqb p m then done else more) agree.same_length) (λ p l'. thread-alike vars locks p l') most_threads [] at l
