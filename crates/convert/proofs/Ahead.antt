-- How many registers follow a line that was read: at its thread's `reg` lines as many as are counted ahead, elsewhere none.
use mathlib.Core.Path.{◌≡◌, refl, ap, ◌∙◌}
use mathlib.Core.List.{List, [], ◌∷◌, ◌++◌}
use Prim.Native.Nat.{ℕ, suc}
use Rattle.rules.specs.Format.{Bytes}
use Rattle.text.specs.Words.{took}
use Rattle.text.specs.Lines.{Line, locks_line, var_line, thread_line, reg_line, statement_line, Due, locks_due, var_due, reg_due, statement_due, due_after, read_line, Started, starts}
use Rattle.text.specs.Convert.{Piece, registers_ahead, field_of, line_fits, pieces}
use Rattle.lines.specs.Registers.{ahead_of, ahead_with, pieces_with}
use Rattle.lines.proofs.RegisterLines.{registers-turn}
use Rattle.convert.proofs.Openings.{none_read, reg_read}

-- ---- one line further

pub ahead_step : (due : Due) (s : Bytes) (x : Line) (r : Bytes) (p : ℕ) → read_line due s ≡ took x r
    → ahead_of due s ≡ ahead_with (ahead_of (due_after x) r) (starts p x ∷ [])
unfolding ahead_of
ahead_step locks_due s x r p e = none_read locks_due s e p (ahead_of (due_after x) r)
ahead_step var_due s x r p e = none_read var_due s e p (ahead_of (due_after x) r)
ahead_step reg_due s x r p e = registers-turn s ∙ reg_read s e p
ahead_step statement_due s x r p e = none_read statement_due s e p (ahead_of (due_after x) r)

-- ---- the pieces of the lines so far

abbrev pub piece_of : ℕ → ℕ → Line → Piece
piece_of n p x = record { start = p; whole = field_of n x; fits = line_fits x }

ahead_more : (n : ℕ) (zs : List Started) (z : Started) → ahead_with n (zs ++ (z ∷ [])) ≡ ahead_with (ahead_with n (z ∷ [])) zs
unfolding ahead_with
ahead_more n [] z = refl
ahead_more n (starts p (locks_line k) ∷ zs) z = refl
ahead_more n (starts p (var_line i) ∷ zs) z = refl
ahead_more n (starts p thread_line ∷ zs) z = refl
ahead_more n (starts p (reg_line i) ∷ zs) z = ap suc (ahead_more n zs z)
ahead_more n (starts p (statement_line a b x) ∷ zs) z = refl

pub pieces_more : (n : ℕ) (zs : List Started) (p : ℕ) (x : Line)
    → pieces_with n (zs ++ (starts p x ∷ [])) ≡ pieces_with (ahead_with n (starts p x ∷ [])) zs ++ (piece_of n p x ∷ [])
unfolding pieces_with ahead_with
pieces_more n [] p x = refl
pieces_more n (starts q y ∷ zs) p x =
    ap {B = List Piece} (λ k. piece_of k q y ∷ pieces_with n (zs ++ (starts p x ∷ []))) (ahead_more n zs (starts p x))
    ∙ ap {B = List Piece} (λ ks. piece_of (ahead_with (ahead_with n (starts p x ∷ [])) zs) q y ∷ ks) (pieces_more n zs p x)

none_ahead : (zs : List Started) → ahead_with 0 zs ≡ registers_ahead zs
unfolding ahead_with registers_ahead
none_ahead [] = refl
none_ahead (starts p (locks_line k) ∷ zs) = refl
none_ahead (starts p (var_line i) ∷ zs) = refl
none_ahead (starts p thread_line ∷ zs) = refl
none_ahead (starts p (reg_line i) ∷ zs) = ap suc (none_ahead zs)
none_ahead (starts p (statement_line a b x) ∷ zs) = refl

pub pieces-all : (zs : List Started) → pieces_with 0 zs ≡ pieces zs
unfolding pieces_with pieces
pieces-all [] = refl
pieces-all (starts p x ∷ zs) =
    ap {B = List Piece} (λ k. piece_of k p x ∷ pieces_with 0 zs) (none_ahead zs)
    ∙ ap {B = List Piece} (λ ks. piece_of (registers_ahead zs) p x ∷ ks) (pieces-all zs)
