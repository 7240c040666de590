-- Statements and their bytes: what reads as a statement is its encoding and fits, and the encoding of one that fits reads
-- as it, at the place where it stands.
use mathlib.Core.Path.{◌≡◌, refl, sym, ap, subst, ◌∙◌}
use mathlib.Core.Bool.{◌&&◌}
use mathlib.Core.List.{[], ◌∷◌, ◌++◌}
use Prim.Native.Nat.{ℕ, zero, suc, ◌+◌, ◌≤◌, ◌<◌}
use native.Mathlib.Omega.{arith}
use lib.Dec.{T, leb, ltb, eqb, leb→le, ltb→lt, eqb→eq, le→leb, lt→ltb, eqb_refl}
use lib.ListN.{length}
use Rattle.rules.specs.Refusal.{short, bad_length, off_range, no_such_name}
use Rattle.rules.specs.Constants.{deepest}
use Rattle.rules.specs.Program.{Arith, constant, register, operation, Condition, always, never, negation, conjunction, equal, less}
use Rattle.rules.specs.Program.{Action, halt, skip, assign, branch, store, load, unlock, lock, Statement}
use Rattle.rules.specs.Format.{Bytes, AreBytes, byte, num16, Got, got, map_got, exactly, Names, length_fits, times_fit, read_arith, read_condition, read_action, has_body, read_contents, read_statement}
use Rattle.rules.specs.Encoding.{two, field, encode_arith, encode_condition, code_of, encode_operands, encode_body, encode_statement, placed_statement}
use Rattle.rules.specs.Fits.{ActionFits, StatementFits}
use Rattle.rules.proofs.Base.{and_left, and_right, and_both}
use Rattle.rules.proofs.IfAt.{IfAt, need-at, map_at, exactly-at, when-got, need-yes}
use Rattle.rules.proofs.Stands.{Stands, OneAt, stands-nil, stands_one, stands-cons, stands-append, stands-left, stands-right, stands-two, num16-small, two_is, stands-field, field-body, field-length}
use Rattle.rules.proofs.ExpressionBytes.{arith-at, arith-reads, condition-at, condition-reads}

-- ---- what reads is the encoding of what it reads as, and fits

record ActionAt (c : ℕ) (ns : Names) (s : Bytes) (e p : ℕ) (a : Action) (q : ℕ) : Type 0 where
  code : code_of a ≡ c
  ends : q ≡ e
  bytes : Stands (encode_operands a) s p e
  fits : ActionFits ns a

module _ {s : Bytes} (o : AreBytes s) (ns : Names) (at e p : ℕ) (le : e ≤ length s) where
  -- one byte of operands, and two
  one_byte : p + 1 ≡ e → Stands (byte s p ∷ []) s p e
  one_byte h = subst (Stands (byte s p ∷ []) s p) h (stands_one (omega arith) refl)

  two_bytes : p + 2 ≡ e → Stands (byte s p ∷ byte s (p + 1) ∷ []) s p e
  two_bytes h = stands-cons refl (subst (Stands (byte s (p + 1) ∷ []) s (p + 1)) (omega arith) (stands_one (omega arith) refl))

  named : (r v : ℕ) → T (ltb r ns.regs && ltb v ns.vars) → (r < ns.regs) × (v < ns.vars)
  named r v t =
      (ltb→lt r ns.regs (and_left (ltb r ns.regs) (ltb v ns.vars) t), ltb→lt v ns.vars (and_right (ltb r ns.regs) (ltb v ns.vars) t))

  action-at : (c : ℕ) → c ≤ 7 → (n : ℕ) → e + 5 ≡ p + n → T (length_fits c n) → IfAt (ActionAt c ns s e p) (read_action c ns s at e p)
  unfolding read_action length_fits code_of encode_operands
  action-at zero h n m l = let k = eqb→eq n 5 l in record { code = refl; ends = refl; bytes = subst (Stands [] s p) (omega arith) (stands-nil (omega arith)); fits = tt }
  action-at (suc zero) h n m l = let k = eqb→eq n 5 l in record { code = refl; ends = refl; bytes = subst (Stands [] s p) (omega arith) (stands-nil (omega arith)); fits = tt }
  action-at (suc (suc zero)) h n m l =
      need-at _ (ltb (byte s p) ns.regs) no_such_name at _ (λ t.
      map_at (λ (a : Arith) (q : ℕ). (q ≡ e) × (read_arith deepest s e ns.regs (p + 1) ≡ got a q)) _ _ _ (exactly-at at e (read_arith deepest s e ns.regs (p + 1))) (λ a q w.
      let x = when-got _ (read_arith deepest s e ns.regs (p + 1)) (arith-at o e ns.regs le deepest (p + 1)) a q w.1 in
      record { code = refl; ends = w.0; bytes = stands-cons refl (subst (Stands (encode_arith a) s (p + 1)) w.0 x.bytes); fits = (ltb→lt (byte s p) ns.regs t, x.fits) }))
  action-at (suc (suc (suc zero))) h n m l =
      map_at (λ (a : Condition) (q : ℕ). (q ≡ e) × (read_condition deepest s e ns.regs (p + 1) ≡ got a q)) _ _ _ (exactly-at at e (read_condition deepest s e ns.regs (p + 1))) (λ a q w.
      let x = when-got _ (read_condition deepest s e ns.regs (p + 1)) (condition-at o e ns.regs le deepest (p + 1)) a q w.1 in
      record { code = refl; ends = w.0; bytes = stands-cons refl (subst (Stands (encode_condition a) s (p + 1)) w.0 x.bytes); fits = x.fits })
  action-at (suc (suc (suc (suc zero)))) h n m l =
      need-at _ (ltb (byte s p) ns.regs && ltb (byte s (p + 1)) ns.vars) no_such_name at _ (λ t. let k = eqb→eq n 7 l in
      record { code = refl; ends = refl; bytes = two_bytes (omega arith); fits = named (byte s p) (byte s (p + 1)) t })
  action-at (suc (suc (suc (suc (suc zero))))) h n m l =
      need-at _ (ltb (byte s p) ns.regs && ltb (byte s (p + 1)) ns.vars) no_such_name at _ (λ t. let k = eqb→eq n 7 l in
      record { code = refl; ends = refl; bytes = two_bytes (omega arith); fits = named (byte s p) (byte s (p + 1)) t })
  action-at (suc (suc (suc (suc (suc (suc zero)))))) h n m l =
      need-at _ (ltb (byte s p) ns.locks) no_such_name at _ (λ t. let k = eqb→eq n 6 l in
      record { code = refl; ends = refl; bytes = one_byte (omega arith); fits = ltb→lt (byte s p) ns.locks t })
  action-at (suc (suc (suc (suc (suc (suc (suc zero))))))) h n m l =
      need-at _ (ltb (byte s p) ns.locks) no_such_name at _ (λ t. let k = eqb→eq n 6 l in
      record { code = refl; ends = refl; bytes = one_byte (omega arith); fits = ltb→lt (byte s p) ns.locks t })
  action-at (suc (suc (suc (suc (suc (suc (suc (suc c)))))))) h n m l = absurd (omega arith)

abbrev pub StatementAt : Names → Bytes → ℕ → Statement → ℕ → Type 0
StatementAt ns s = OneAt encode_statement placed_statement (StatementFits ns) s

module _ {s : Bytes} (o : AreBytes s) (ns : Names) (at : ℕ) (tag : byte s at ≡ 6) where
  pub statement-at : IfAt (StatementAt ns s at) (read_statement ns s at)
  unfolding read_statement read_contents has_body encode_statement placed_statement
  statement-at =
      let n = num16 s (at + 1) in
      let least = num16 s (at + 3) in
      let greatest = num16 s (at + 5) in
      let c = byte s (at + 7) in
      let e = at + 3 + n in
      let P = StatementAt ns s at in
      need-at P (leb e (length s)) short at _ (λ b.
      need-at P (leb 5 n) bad_length at _ (λ long.
      need-at P (leb c 7) off_range at _ (λ known.
      need-at P (length_fits c n) bad_length at _ (λ fit.
      need-at P (times_fit c least greatest) off_range at _ (λ times.
      let le : e ≤ length s = leb→le e (length s) b in
      let five : 5 ≤ n = leb→le 5 n long in
      map_at (ActionAt c ns s e (at + 8)) P _ (read_action c ns s at e (at + 8))
      (action-at o ns at e (at + 8) le c (leb→le c 7 known) n (omega arith) fit) (λ a q w.
      let code : byte s (at + 7) ≡ code_of a = sym w.code in
      let ops : Stands (encode_operands a) s (at + 7 + 1) e = subst (λ (j : ℕ). Stands (encode_operands a) s j e) (omega arith) w.bytes in
      let low : Stands (two least) s (at + 3) (at + 5) = subst (Stands (two least) s (at + 3)) (omega arith) (stands-two o {p = at + 3} {n = least} (omega arith) refl) in
      let high : Stands (two greatest) s (at + 5) (at + 7) = subst (Stands (two greatest) s (at + 5)) (omega arith) (stands-two o {p = at + 5} {n = greatest} (omega arith) refl) in
      let body : Stands (encode_body least greatest a) s (at + 3) e = stands-append low (stands-append high (stands-cons code ops)) in
      let ends : at + 3 + length (encode_body least greatest a) ≡ e = body.ends in
      let len : n ≡ length (encode_body least greatest a) = omega arith in
      record {
        bytes = subst (Stands (field 6 (encode_body least greatest a)) s at) (sym w.ends) (stands-field o 6 (encode_body least greatest a) (record { tag_is = tag; size_is = len; fits = omega arith }) body);
        good = record {
          times = subst (λ (k : ℕ). T (times_fit k least greatest)) (sym w.code) times;
          two_bytes = (let small = num16-small o (at + 5) in omega arith);
          action = w.fits;
        };
        here = refl;
      }))))))

-- ---- the encoding of a statement that fits reads as it

arith-some : (a : Arith) → 1 ≤ length (encode_arith a)
unfolding encode_arith
arith-some (constant z) = omega arith
arith-some (register r) = omega arith
arith-some (operation o a b) = omega arith

condition-some : (c : Condition) → 1 ≤ length (encode_condition c)
unfolding encode_condition
condition-some always = omega arith
condition-some never = omega arith
condition-some (negation c) = omega arith
condition-some (conjunction c d) = omega arith
condition-some (equal a b) = omega arith
condition-some (less a b) = omega arith

pub code-known : (a : Action) → T (leb (code_of a) 7)
unfolding code_of
code-known halt = tt
code-known skip = tt
code-known (assign r a) = tt
code-known (branch t c) = tt
code-known (store r v) = tt
code-known (load r v) = tt
code-known (unlock l) = tt
code-known (lock l) = tt

length-fits : (l g : ℕ) (a : Action) → T (length_fits (code_of a) (length (encode_body l g a)))
unfolding code_of encode_operands length_fits
length-fits l g halt = tt
length-fits l g skip = tt
length-fits l g (assign r a) = let h = arith-some a in le→leb 7 (length (encode_body l g (assign r a))) (omega arith)
length-fits l g (branch t c) = let h = condition-some c in le→leb 7 (length (encode_body l g (branch t c))) (omega arith)
length-fits l g (store r v) = tt
length-fits l g (load r v) = tt
length-fits l g (unlock x) = tt
length-fits l g (lock x) = tt

pub exactly-got : {A : Type 0} (at e : ℕ) (g : Got A) (a : A) → g ≡ got a e → exactly at e g ≡ got a e
unfolding exactly
exactly-got at e g a h = ap (exactly at e) h ∙ need-yes (eqb e e) _ _ _ (eqb_refl e)

name-fits : (b r n : ℕ) → b ≡ r → r < n → T (ltb b n)
name-fits b r n h k = lt→ltb b n (omega arith)

names-fit : (ns : Names) (a b r v : ℕ) → a ≡ r → b ≡ v → (r < ns.regs) × (v < ns.vars) → T (ltb a ns.regs && ltb b ns.vars)
names-fit ns a b r v h k f = and_both (ltb a ns.regs) (ltb b ns.vars) (name-fits a r ns.regs h f.0) (name-fits b v ns.vars k f.1)

module _ {s : Bytes} (ns : Names) (at e p : ℕ) where
  action-reads : (a : Action) → ActionFits ns a → Stands (encode_operands a) s p e → read_action (code_of a) ns s at e p ≡ got a e
  unfolding read_action code_of encode_operands map_got
  action-reads halt f h = refl
  action-reads skip f h = refl
  action-reads (assign r a) f h =
      let b : byte s p ≡ r = h.same 0 p (omega arith) (omega arith) in
      let g = arith-reads e ns.regs deepest a f.1 (stands-right (r ∷ []) (encode_arith a) h) (omega arith) in
      need-yes (ltb (byte s p) ns.regs) _ _ _ (name-fits (byte s p) r ns.regs b f.0)
      ∙ ap (map_got (assign (byte s p))) (exactly-got at e (read_arith deepest s e ns.regs (p + 1)) a g) ∙ (λ i. got (assign (b i) a) e)
  action-reads (branch t c) f h =
      let b : byte s p ≡ t = h.same 0 p (omega arith) (omega arith) in
      let g = condition-reads e ns.regs deepest c f (stands-right (t ∷ []) (encode_condition c) h) (omega arith) in
      ap (map_got (branch (byte s p))) (exactly-got at e (read_condition deepest s e ns.regs (p + 1)) c g) ∙ (λ i. got (branch (b i) c) e)
  action-reads (store r v) f h =
      let a = h.same 0 p (omega arith) (omega arith) in let b = h.same 1 (p + 1) (omega arith) (omega arith) in
      need-yes _ _ _ _ (names-fit ns (byte s p) (byte s (p + 1)) r v a b f) ∙ (λ i. got (store (a i) (b i)) e)
  action-reads (load r v) f h =
      let a = h.same 0 p (omega arith) (omega arith) in let b = h.same 1 (p + 1) (omega arith) (omega arith) in
      need-yes _ _ _ _ (names-fit ns (byte s p) (byte s (p + 1)) r v a b f) ∙ (λ i. got (load (a i) (b i)) e)
  action-reads (unlock l) f h =
      let a = h.same 0 p (omega arith) (omega arith) in
      need-yes _ _ _ _ (name-fits (byte s p) l ns.locks a f) ∙ (λ i. got (unlock (a i)) e)
  action-reads (lock l) f h =
      let a = h.same 0 p (omega arith) (omega arith) in
      need-yes _ _ _ _ (name-fits (byte s p) l ns.locks a f) ∙ (λ i. got (lock (a i)) e)

-- the numbers of a statement whose bytes stand at a place
pub record Numbers (s : Bytes) (at : ℕ) (x : Statement) (q : ℕ) : Type 0 where
  pub len : num16 s (at + 1) ≡ length (encode_body x.least x.greatest x.action)
  pub low : num16 s (at + 3) ≡ x.least
  pub high : num16 s (at + 5) ≡ x.greatest
  pub code : byte s (at + 7) ≡ code_of x.action
  pub end : at + 3 + length (encode_body x.least x.greatest x.action) ≡ q
  pub operands : Stands (encode_operands x.action) s (at + 8) q

pub statement-numbers : (s : Bytes) (at : ℕ) (x : Statement) {q : ℕ} → Stands (encode_statement x) s at q → Numbers s at x q
unfolding encode_statement
statement-numbers s at x {q} h =
    let a = x.action in let l = x.least in let g = x.greatest in
    let body = encode_body l g a in
    let ends : at + length (field 6 body) ≡ q = h.ends in
    let inside = h.inside in
    let b : Stands body s (at + 3) q = field-body 6 body h in
    let rest = stands-right (two l) (two g ++ code_of a ∷ encode_operands a) b in
    record {
      len = field-length 6 body h;
      low = two_is l (stands-left (two l) (two g ++ code_of a ∷ encode_operands a) b);
      high = two_is g (subst (λ (j : ℕ). Stands (two g) s j (j + 2)) (omega arith) (stands-left (two g) (code_of a ∷ encode_operands a) rest));
      code = b.same 4 (at + 7) (omega arith) (omega arith);
      end = omega arith;
      operands = subst (λ (j : ℕ). Stands (encode_operands a) s j q) (omega arith) (stands-right (two l ++ two g ++ code_of a ∷ []) (encode_operands a) b);
    }

module _ {s : Bytes} (ns : Names) (at : ℕ) (x : Statement) (f : StatementFits ns x) {q : ℕ} (h : Stands (encode_statement x) s at q) where
  pub statement-reads : read_statement ns s at ≡ got (placed_statement at x) q
  unfolding read_statement read_contents has_body placed_statement map_got
  statement-reads =
      let a = x.action in let l = x.least in let g = x.greatest in
      let n = length (encode_body l g a) in
      let inside = h.inside in
      let w = statement-numbers s at x h in
      rw (w.len, w.low, w.high, w.code, w.end)
      (need-yes (leb q (length s)) _ _ _ (le→leb q (length s) inside)
      ∙ need-yes (leb 5 n) _ _ _ (le→leb 5 n (omega arith))
      ∙ need-yes (leb (code_of a) 7) _ _ _ (code-known a)
      ∙ need-yes (length_fits (code_of a) n) _ _ _ (length-fits l g a)
      ∙ need-yes (times_fit (code_of a) l g) _ _ _ f.times
      ∙ ap (map_got _) (action-reads ns at q (at + 8) a f.action w.operands))
