-- No text that says a program has fewer `(` than its printed form. So no printed pair could be left out.
use mathlib.Core.Path.{◌≡◌, refl, ap, subst, ◌∙◌}
use mathlib.Core.List.{List, [], ◌∷◌, ◌++◌}
use Prim.Native.Nat.{ℕ, zero, suc, ◌+◌, ◌-◌, ◌≤◌}
use native.Mathlib.Omega.{arith}
use lib.ListN.{length}
use Rattle.rules.specs.Format.{Bytes}
use Rattle.rules.specs.Product.{bytes}
use Rattle.rules.specs.Program.{Header, Program}
use Rattle.rules.specs.Encoding.{in_row}
use Rattle.rules.proofs.Base.{if-ind}
use Rattle.text.specs.Words.{Read, stop, took, then_read, number, line_end}
use Rattle.text.specs.Lines.{Line, word_only, Due, locks_due, due_after, Started, starts, may_end, read_lines, Text, head_line, ends, read_text}
use Rattle.text.specs.Says.{bare, lines_of}
use Rattle.printed.specs.Print.{print_line, ended, print_header, print}
use Rattle.printed.specs.Claims.{Tells, opens, Pair, without}
use Rattle.printed.proofs.Opens.{opens-append, stops, takes, Costs, Takes, free, then-leaving, map-leaving, leaving, on-left, number-takes, line-end-takes}
use Rattle.printed.proofs.OpensLines.{line_needs, after-number, word-only-takes, range-leaving, line-takes}

-- ---- all lines

abbrev pub lines_need : List Started → ℕ
lines_need xs = opens (in_row ended (bare xs))

one_more : (p : ℕ) (x : Line) (xs : List Started) → lines_need (starts p x ∷ xs) ≡ line_needs x + lines_need xs
unfolding in_row ended bare opens
one_more p x xs =
    let a = opens-append (print_line x ++ bytes "\n") (in_row ended (bare xs)) in
    let b = opens-append (print_line x) (bytes "\n") in
    omega arith

no_lines : lines_need [] ≡ 0
unfolding in_row bare opens
no_lines = refl

over-takes : (s : Bytes) → Costs lines_need (opens s) (took [] s)
over-takes s = let e = no_lines in takes [] s (omega arith)

lines-take : (n k : ℕ) (due : Due) → Takes lines_need (read_lines n k due)
unfolding read_lines
lines-take n zero due s = if-ind (may_end due s) (took [] s) (stop s) (Costs lines_need (opens s)) (λ _. over-takes s) (λ _. stops s)
lines-take n (suc k) due s =
    if-ind (may_end due s) (took [] s) _ (Costs lines_need (opens s)) (λ _. over-takes s) (λ _.
    then-leaving _ (line-takes due s) (λ x r h.
    map-leaving _ _ (lines-take n k (due_after x) r) (λ xs t l. let e = one_more (n - length s) x xs in omega arith)))

head-takes : {A : Type 0} (w : Bytes) (one : Bytes → Read A) → Takes free one → Takes free (head_line w one)
unfolding head_line
head-takes w one h s =
    let value : Costs free (opens s) (then_read (word_only w s) (λ _ r. one r)) = then-leaving _ (word-only-takes w s) (λ _ r l. on-left free h r (omega arith)) in
    then-leaving line_end value (λ a r l. line-end-takes _ a r (λ t k. omega arith))

ends-take : Takes free ends
unfolding ends
ends-take s = leaving (range-leaving (λ _. Unit {0}) number (λ a b. (a, b)) number-takes (λ a b. tt) s) (λ x r p. let l = p.1 in omega arith)

text-takes : Takes (λ (t : Text). lines_need t.lines) read_text
unfolding read_text
text-takes s =
    then-leaving _ (head-takes (bytes "limit") number number-takes s) (λ limit r h.
    then-leaving _ (head-takes (bytes "budget") number number-takes r) (λ budget t k.
    then-leaving _ (head-takes (bytes "label") ends ends-take t) (λ label u l.
    map-leaving _ _ (lines-take (length s) (length u) locks_due u) (λ xs v m. omega arith))))

header-needs : (h : Header) → opens (print_header h) ≡ 0
unfolding print_header opens
header-needs h =
    after-number (bytes "limit ") h.limit _ refl ∙ after-number (bytes "\nbudget ") h.budget _ refl ∙ after-number (bytes "\nlabel ") h.label_low _ refl
    ∙ after-number (bytes "..") h.label_high (bytes "\n") refl

fewer : (text : Bytes) (t : Text) (r : Bytes) → Costs (λ (t : Text). lines_need t.lines) (opens text) (took t r) → lines_need t.lines ≤ opens text
fewer text t r (takes _ _ h) = omega arith

pub fewest : (g : Program) (text : Bytes) → Tells text g → opens (print g) ≤ opens text
unfolding print
fewest g text x =
    let a = opens-append (print_header g.header) (in_row ended (lines_of g)) in
    let b = header-needs g.header in
    let c : opens (in_row ended (bare x.text_read.lines)) ≡ opens (in_row ended (lines_of g)) = ap (λ xs. opens (in_row ended xs)) x.says.lines in
    let d = fewer text x.text_read [] (subst (Costs (λ (t : Text). lines_need t.lines) (opens text)) x.reads_text (text-takes text)) in
    omega arith

-- ---- a pair left out

pair-fewer : (before inside behind : Bytes) → suc (opens (before ++ (inside ++ behind))) ≤ opens (before ++ (40 ∷ (inside ++ (41 ∷ behind))))
unfolding opens
pair-fewer before inside behind =
    let a = opens-append before (inside ++ behind) in
    let b = opens-append inside behind in
    let c = opens-append before (40 ∷ (inside ++ (41 ∷ behind))) in
    let d = opens-append inside (41 ∷ behind) in
    omega arith

pub none_spare : (g : Program) (p : Pair (print g)) → Tells (without p) g → ⊥
none_spare g p x =
    let a = fewest g (without p) x in
    let b = pair-fewer p.before p.inside p.behind in
    let c = ap opens p.is in
    absurd (omega arith)
