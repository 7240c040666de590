-- What holds of a statement that was read: it is what the bytes at its place say, its names are there, its expression ends
-- where its field ends, and its times are in order.
use mathlib.Core.Path.{◌≡◌, refl, sym, ap, subst, ◌∙◌}
use mathlib.Core.Bool.{Bool, not, ◌&&◌}
use mathlib.Core.List.{[]}
use Prim.Native.Nat.{ℕ, zero, suc, ◌+◌, ◌<◌, ◌≤◌}
use native.Mathlib.Omega.{arith}
use lib.Dec.{T, leb, ltb, leb→le, ltb→lt}
use lib.ListN.{length}
use Rattle.rules.specs.Base.{Each, nil}
use Rattle.rules.specs.Constants.{deepest, most_statements}
use Rattle.rules.specs.Refusal.{short, bad_length, off_range, no_such_name}
use Rattle.rules.specs.Program.{Arith, Condition, Action, Statement}
use Rattle.rules.specs.Format.{Bytes, byte, num16, Got, got, Names, read_arith, read_condition, read_action, has_body, read_contents, read_statement, statement_here, read_statements}
use Rattle.rules.proofs.Base.{and_left, and_right}
use Rattle.rules.proofs.Format.{If, need-if, many-if, Timed, contents-timed}
use Rattle.field.specs.Decoded.{body_end, decode_action, statement_at, statement_of, action_of}
use Rattle.reader.specs.Facts.{Named, Expresses, StatementFacts}
use Rattle.rules.proofs.IfAt.{IfAt, need-at, map_at, exactly-at, any_at, plain, with-reading, when-got}

-- ---- the action of a code, whose operands stand from p up to e

record ActionFacts (c : ℕ) (ns : Names) (s : Bytes) (e p : ℕ) (o : Action) (q : ℕ) : Type 0 where
  ends : q ≡ e
  named : Named ns o
  expresses : Expresses s ns.regs (p + 1) e o
  decoded : decode_action c (byte s p) (byte s (p + 1)) (p + 1) e ≡ action_of (p + 1) e o

ends_at : {A : Type 0} {g : Got A} {a : A} {q e : ℕ} → q ≡ e → g ≡ got a q → g ≡ got a e
ends_at {a = a} f h = h ∙ ap (got a) f

both-named : (ns : Names) (r v : ℕ) → T (ltb r ns.regs && ltb v ns.vars) → (r < ns.regs) × (v < ns.vars)
both-named ns r v t =
    (ltb→lt r ns.regs (and_left (ltb r ns.regs) (ltb v ns.vars) t), ltb→lt v ns.vars (and_right (ltb r ns.regs) (ltb v ns.vars) t))

action-facts : (c : ℕ) → c ≤ 7 → (ns : Names) (s : Bytes) (at e p : ℕ) → IfAt (ActionFacts c ns s e p) (read_action c ns s at e p)
unfolding read_action decode_action action_of
action-facts zero h ns s at e p = record { ends = refl; named = tt; expresses = tt; decoded = refl }
action-facts (suc zero) h ns s at e p = record { ends = refl; named = tt; expresses = tt; decoded = refl }
action-facts (suc (suc zero)) h ns s at e p =
    need-at _ (ltb (byte s p) ns.regs) no_such_name at _ (λ t.
    map_at (λ (a : Arith) (q : ℕ). (q ≡ e) × (read_arith deepest s e ns.regs (p + 1) ≡ got a q)) _ _ _ (exactly-at at e (read_arith deepest s e ns.regs (p + 1)))
    (λ a q w. record { ends = w.0; named = ltb→lt (byte s p) ns.regs t; expresses = ends_at w.0 w.1; decoded = refl }))
action-facts (suc (suc (suc zero))) h ns s at e p =
    map_at (λ (a : Condition) (q : ℕ). (q ≡ e) × (read_condition deepest s e ns.regs (p + 1) ≡ got a q)) _ _ _ (exactly-at at e (read_condition deepest s e ns.regs (p + 1)))
    (λ a q w. record { ends = w.0; named = tt; expresses = ends_at w.0 w.1; decoded = refl })
action-facts (suc (suc (suc (suc zero)))) h ns s at e p =
    need-at _ (ltb (byte s p) ns.regs && ltb (byte s (p + 1)) ns.vars) no_such_name at _ (λ t.
    record { ends = refl; named = both-named ns (byte s p) (byte s (p + 1)) t; expresses = tt; decoded = refl })
action-facts (suc (suc (suc (suc (suc zero))))) h ns s at e p =
    need-at _ (ltb (byte s p) ns.regs && ltb (byte s (p + 1)) ns.vars) no_such_name at _ (λ t.
    record { ends = refl; named = both-named ns (byte s p) (byte s (p + 1)) t; expresses = tt; decoded = refl })
action-facts (suc (suc (suc (suc (suc (suc zero)))))) h ns s at e p =
    need-at _ (ltb (byte s p) ns.locks) no_such_name at _ (λ t. record { ends = refl; named = ltb→lt (byte s p) ns.locks t; expresses = tt; decoded = refl })
action-facts (suc (suc (suc (suc (suc (suc (suc zero))))))) h ns s at e p =
    need-at _ (ltb (byte s p) ns.locks) no_such_name at _ (λ t. record { ends = refl; named = ltb→lt (byte s p) ns.locks t; expresses = tt; decoded = refl })
action-facts (suc (suc (suc (suc (suc (suc (suc (suc c)))))))) h ns s at e p = absurd (omega arith)

-- ---- a statement's field

-- x was read at p, up to q
record ReadAt (ns : Names) (s : Bytes) (x : Statement) (p q : ℕ) : Type 0 where
  ends : q ≡ body_end s p
  decoded : statement_at s p ≡ statement_of s x
  head : p + 8 ≤ length s
  body : body_end s p ≤ length s
  named : Named ns x.action
  expresses : Expresses s ns.regs (p + 9) (body_end s p) x.action

abbrev Here : Names → Bytes → ℕ → Statement → ℕ → Type 0
Here ns s at x q = (x.place ≡ at) × ReadAt ns s x at q

read_at : (ns : Names) (s : Bytes) (at : ℕ) → IfAt (Here ns s at) (read_statement ns s at)
unfolding read_statement read_contents has_body
read_at ns s at =
    let n = num16 s (at + 1) in
    let c = byte s (at + 7) in
    let e = at + 3 + n in
    let next : at + 8 + 1 ≡ at + 9 = omega arith in
    need-at (Here ns s at) (leb e (length s)) short at _ (λ b.
    need-at (Here ns s at) (leb 5 n) bad_length at _ (λ long.
    need-at (Here ns s at) (leb c 7) off_range at _ (λ known.
    need-at (Here ns s at) _ bad_length at _ (λ _. need-at (Here ns s at) _ off_range at _ (λ _.
    map_at (ActionFacts c ns s e (at + 8)) (Here ns s at) _ (read_action c ns s at e (at + 8)) (action-facts c (leb→le c 7 known) ns s at e (at + 8))
    (λ o q w.
    let inside : e ≤ length s = leb→le e (length s) b in
    let five : 5 ≤ n = leb→le 5 n long in
    let view : decode_action c (byte s (at + 8)) (byte s (at + 9)) (at + 9) e ≡ action_of (at + 9) e o =
    subst (λ (j : ℕ). decode_action c (byte s (at + 8)) (byte s j) j e ≡ action_of j e o) next w.decoded in (
      refl,
      record {
        ends = w.ends;
        decoded = λ i. record { least = record { 0 = num16 s (at + 3) }; greatest = record { 0 = num16 s (at + 5) }; action = view i };
        head = omega arith;
        body = inside;
        named = w.named;
        expresses = subst (λ (j : ℕ). Expresses s ns.regs j e o) next w.expresses;
      },
    )))))))

timed : (ns : Names) (s : Bytes) (at : ℕ) → If Timed (read_statement ns s at)
unfolding read_statement
timed ns s at = need-if Timed (has_body s at) short at (read_contents ns s at) (λ _. contents-timed ns s at)

facts-of : (ns : Names) (s : Bytes) (x : Statement) (q : ℕ) → read_statement ns s x.place ≡ got x q → ReadAt ns s x x.place q → Timed x → StatementFacts ns s x
facts-of ns s x q e w t = record {
  reads = e ∙ ap (got x) w.ends;
  decoded = w.decoded;
  head = w.head;
  body = w.body;
  named = w.named;
  expresses = w.expresses;
  in_order = t.in_order;
  takes_time = λ h. t.takes_time (subst (λ (b : Bool). T (not b)) (sym h) tt);
}

pub statement-facts : (ns : Names) (s : Bytes) (at : ℕ) → If (StatementFacts ns s) (read_statement ns s at)
statement-facts ns s at =
    let g = read_statement ns s at in
    plain (StatementFacts ns s) g (with-reading (λ x q. StatementFacts ns s x) g (λ x q e.
    let w = when-got (Here ns s at) g (read_at ns s at) x q e in
    let t = when-got (λ x q. Timed x) g (any_at Timed g (timed ns s at)) x q e in
    facts-of ns s x q
    (subst (λ (j : ℕ). read_statement ns s j ≡ got x q) (sym w.0) e)
    (subst (λ (j : ℕ). ReadAt ns s x j q) (sym w.0) w.1) t))

pub statements-facts : (ns : Names) (s : Bytes) (at : ℕ) → If (Each (StatementFacts ns s)) (read_statements ns s at)
unfolding read_statements
statements-facts ns s at =
    many-if (StatementFacts ns s) (λ n p. statement_here n s p) (λ p. read_statement ns s p) (λ p. statement-facts ns s p) most_statements [] at nil
