-- The `reg` lines of a thread, counted ahead: turn by turn, whatever bounds their number.
use mathlib.Core.Path.{◌≡◌, refl, ap, subst, ◌∙◌}
use mathlib.Core.List.{List, [], ◌∷◌}
use Prim.Native.Nat.{ℕ, zero, suc, ◌≤◌, ◌<◌}
use native.Mathlib.Nat.{le_refl}
use native.Mathlib.Omega.{arith}
use lib.ListN.{length}
use Rattle.rules.specs.Format.{Bytes}
use Rattle.rules.specs.Interval.{Interval, interval}
use Rattle.text.specs.Words.{bytes, Read, stop, took, then_read, spaces, apart, signed, Word, word, spell, keyword, line_end}
use Rattle.text.specs.Lines.{range, word_only, head_line}
use Rattle.text.proofs.Within.{Within, Shortens, Eats, eats-more, spaces-shorten, spell-eats, apart-within, signed-within, line-end-within}
use Rattle.text.proofs.LinesWithin.{range-within}
use Rattle.lines.specs.Registers.{register_line, on_register, registers_in}

-- ---- a `reg` line takes at least a byte

then-eats : {A B : Type 0} {n : ℕ} (g : Read A) (f : A → Bytes → Read B) → Eats n g
    → ((a : A) (r : Bytes) → length r < n → Eats n (f a r)) → Eats n (then_read g f)
unfolding then_read
then-eats (stop r) f h k = h
then-eats (took a r) f h k = k a r h

eaten : {A : Type 0} {m n : ℕ} (g : Read A) → m < n → Within m g → Eats n g
eaten (stop r) l h = omega arith
eaten (took a r) l h = omega arith

keyword-eats : {A : Type 0} (ws : List (Word A)) (s : Bytes) → Eats (length s) (keyword ws s)
unfolding keyword
keyword-eats ws s =
    then-eats (spell ws (spaces s)) apart (eats-more (spell ws (spaces s)) (spaces-shorten s) (spell-eats ws (spaces s)))
    (λ a r l. eaten (apart a r) l (apart-within a r))

head-line-eats : {A : Type 0} (w : Bytes) (one : Bytes → Read A) → Shortens one → (s : Bytes) → Eats (length s) (head_line w one s)
unfolding head_line word_only
head-line-eats w one h s =
    then-eats (then_read (keyword (word w tt ∷ []) s) (λ _ r. one r)) line_end
    (then-eats (keyword (word w tt ∷ []) s) (λ _ r. one r) (keyword-eats (word w tt ∷ []) s) (λ _ r l. eaten (one r) l (h r)))
    (λ a r l. eaten (line_end a r) l (line-end-within a r))

register-eats : (s : Bytes) → Eats (length s) (register_line s)
unfolding register_line
register-eats s = head-line-eats (bytes "reg") (range signed interval) (range-within signed signed-within interval) s

-- fewer bytes are left behind it
pub register-shorter : (s : Bytes) {i : Interval} {r : Bytes} → register_line s ≡ took i r → length r < length s
register-shorter s e = subst (Eats (length s)) e (register-eats s)

-- ---- turn by turn

same-registers : (k : ℕ) (g : Read Interval) (f h : Bytes → ℕ) → Eats k g → ((r : Bytes) → length r < k → f r ≡ h r)
    → on_register g f ≡ on_register g h
unfolding on_register
same-registers k (stop r) f h e q = refl
same-registers k (took i r) f h e q = ap suc (q r e)

registers-enough : (k m : ℕ) (s : Bytes) → length s ≤ k → length s ≤ m → registers_in k s ≡ registers_in m s
unfolding registers_in register_line head_line word_only keyword spell spaces then_read on_register
registers-enough zero zero s h l = refl
registers-enough zero (suc m) [] h l = refl
registers-enough zero (suc m) (b ∷ s) h l = absurd (omega arith)
registers-enough (suc k) zero [] h l = refl
registers-enough (suc k) zero (b ∷ s) h l = absurd (omega arith)
registers-enough (suc k) (suc m) s h l =
    same-registers (length s) (register_line s) (λ r. registers_in k r) (λ r. registers_in m r) (register-eats s)
    (λ r j. registers-enough k m r (omega arith) (omega arith))

pub registers-turn : (s : Bytes) → registers_in (length s) s ≡ on_register (register_line s) (λ r. registers_in (length r) r)
unfolding registers_in
registers-turn s =
    registers-enough (length s) (suc (length s)) s (le_refl _) (omega arith)
    ∙ same-registers (length s) (register_line s) (λ r. registers_in (length s) r) (λ r. registers_in (length r) r) (register-eats s)
    (λ r j. registers-enough (length s) (length r) r (omega arith) (le_refl _))
