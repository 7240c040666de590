-- A thread's statements and the table of their places.
use Rattle.std.specs.Prelude.{◌≡◌, Bool, true, ltb, ℕ, ◌+◌, ◌≤◌, List, [], length, set, Result, Ok, Err}
use Rattle.std.proofs.Common.{refl, sym, ap, subst, ◌∙◌, arith}
use Rattle.std.proofs.lemmas.List.Edits.{sets}
use Rattle.rules.specs.Constants.{most_statements}
use Rattle.rules.specs.Refusal.{short, bad_length, off_range}
use Rattle.rules.specs.Program.{Statement}
use Rattle.rules.specs.Format.{Bytes, Got, bad, got, Names, read_contents, read_statement, statement_here, read_statements}
use Rattle.rules.proofs.Format.{If, need-if}
use Rattle.refusal.specs.declared.Refusal.TheVariants.{TooMany}
use Rattle.refusal.specs.declared.Fault.{Fault}
use Rattle.refusal.specs.Shape.{rule_of}
use Rattle.field.specs.declared.outcome.Counted.{Counted}
use Rattle.field.specs.Outcome.{needed, end_of, next_of}
use Rattle.field.proofs.outcome.Laws.{got_of, fault-back}
use Rattle.field.proofs.Loops.{Turn, turn-well, turn-items}
use Rattle.reader.specs.Index.{StatementsRead, places_of}
use Rattle.reader.proofs.closing.Codes.{map-any}
use Rattle.reader.proofs.Filled.{table_more}

statement-at : (ns : Names) (s : Bytes) (at : ℕ) → If (λ x. x.place ≡ at) (read_statement ns s at)
unfolding read_statement read_contents
statement-at ns s at =
    need-if _ _ short at _ (λ _. need-if _ _ bad_length at _ (λ _. need-if _ _ off_range at _ (λ _. need-if _ _ bad_length at _ (λ _.
    need-if _ _ off_range at _ (λ _. map-any (λ x. x.place ≡ at) _ _ (λ o. refl))))))

-- a statement stands at its place
statement-place : (ns : Names) (s : Bytes) (at : ℕ) (x : Statement) (q : ℕ) → read_statement ns s at ≡ got x q → x.place ≡ at
statement-place ns s at x q e = subst (If (λ x. x.place ≡ at)) e (statement-at ns s at)

-- ---- what the code gives

module _ {G : Got (List Statement)} (l m : List ℕ) where
  pub read-failed : {f : Fault} {x : Result Counted Fault} → x ≡ Err f → G ≡ bad (rule_of f.refusal) f.place → StatementsRead G l m x
  read-failed {f} {x} h e = subst (λ (g : Got (List Statement)). StatementsRead g l m x) (sym e) (h ∙ ap Err (sym (fault-back f)))

  pub read_found : {xs : List Statement} {n p : ℕ} → G ≡ got xs p → length xs ≡ n → m ≡ sets l 0 (places_of xs) → n ≤ most_statements
      → StatementsRead G l m (Ok (record { count = n; end = p }))
  read_found {xs} {n} {p} e len f h =
      subst (λ (g : Got (List Statement)). StatementsRead g l m (Ok (record { count = n; end = p }))) (sym e)
      ((λ i. Ok (record { count = sym len i; end = p })), f, omega arith)

-- ---- the loop

-- n statements were read, up to p: the table l became m
pub record StatementsSoFar (ns : Names) (s : Bytes) (at : ℕ) (l m : List ℕ) (n p : ℕ) : Type 0 where
  pub turn : Turn (λ n p. statement_here n s p) (λ p. read_statement ns s p) most_statements (read_statements ns s at) n p
  pub table : m ≡ sets l 0 (places_of turn.items)

pub statements-start : (ns : Names) (s : Bytes) (at : ℕ) (l : List ℕ) → StatementsSoFar ns s at l l 0 at
unfolding read_statements
statements-start ns s at l = record { turn = record { items = []; count = refl; top = omega arith; rest = refl }; table = refl }

module _ {ns : Names} {s : Bytes} {at : ℕ} {l m : List ℕ} {n p : ℕ} (i : StatementsSoFar ns s at l m n p) where
  pub statements_more : {b : Bool} → Ok b ≡ next_of p (statement_here n s p) → b ≡ true → Ok tt ≡ needed (ltb n most_statements) TooMany p
      → {q : ℕ} → Ok q ≡ end_of (read_statement ns s p) → StatementsSoFar ns s at l (set m n p) (n + 1) q
  statements_more e h y x =
      let w = got_of (read_statement ns s p) x in
      record {
        turn = turn-well i.turn e h y w.0 w.1;
        table =
            let z : n ≡ 0 + n = omega arith in
            ap (λ (k : ℕ). set m k p) z ∙ table_more (λ (x : Statement). x.place) l m 0 n i.turn.items w.0 p i.turn.count i.table (statement-place ns s p w.0 _ w.1)
            ∙ ap (λ (xs : List Statement). sets l 0 (places_of xs)) (sym (turn-items i.turn e h y w.0 w.1));
      }
