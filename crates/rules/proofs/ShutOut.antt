-- What demands 1 and 2 shut out, by sheets B, C and D.
use mathlib.Core.Path.{◌≡◌, refl, sym, ap, ◌∙◌}
use mathlib.Core.List.{List, [], ◌∷◌}
use Prim.Native.Nat.{ℕ}
use native.Mathlib.Omega.{arith}
use lib.IntN.{ℤ, pos}
use lib.ListN.{length, replicate, length-replicate}
use Rattle.rules.specs.Constants.{lent_by_program}
use Rattle.rules.specs.Format.{Bytes}
use Rattle.rules.specs.Search.{Answer, five, answer}
use Rattle.rules.specs.Worked.{B, C, D}
use Rattle.rules.specs.ShutOut.{Tool, Meets, ShutOut}
use Rattle.rules.proofs.Compute.{every-rule}

B-gives : answer B lent_by_program ≡ five 0 0 2 2 3
unfolding every-rule
B-gives = refl

C-gives : answer C lent_by_program ≡ five 0 0 5 2 4
unfolding every-rule
C-gives = refl

D-gives : answer D lent_by_program ≡ five 0 0 19 3 4
unfolding every-rule
D-gives = refl

-- what the program lends
buffer : List ℤ
buffer = replicate lent_by_program (pos 0)

module _ (t : Tool) (meets : Meets t) where
  gives : (sheet : Bytes) (lent : List ℤ) (a : Answer) → length lent ≡ lent_by_program → answer sheet lent_by_program ≡ a → t.answers sheet lent ≡ a
  gives sheet lent a e h = meets.follows sheet lent ∙ ap (answer sheet) e ∙ h

  full : length buffer ≡ lent_by_program
  full = unfold buffer in length-replicate lent_by_program (pos 0)

  same-steps : (a : Answer) → ((sheet : Bytes) (lent : List ℤ) → t.answers sheet lent ≡ a) → ⊥
  same-steps a h =
      let b : a.steps ≡ 2 = ap (λ (x : Answer). x.steps) (sym (h B buffer) ∙ gives B buffer _ full B-gives) in
      let c : a.steps ≡ 5 = ap (λ (x : Answer). x.steps) (sym (h C buffer) ∙ gives C buffer _ full C-gives) in
      omega arith

  left_alone : ((sheet : Bytes) (lent : List ℤ) → t.leaves sheet lent ≡ lent) → ⊥
  left_alone h =
      let e : pos 1 ∷ [] ≡ pos 0 ∷ [] = sym (h B (pos 1 ∷ [])) ∙ meets.zeros B (pos 1 ∷ []) in
      let z : ◌≡◌ {A = ℕ} 1 0 = cc in
      omega arith

pub shut_out : ShutOut
shut_out t meets = record {
  accepts_some = (B, buffer, ap (λ (a : Answer). a.refusal) (gives t meets B buffer _ (full t meets) B-gives));
  not_constant = same-steps t meets;
  touches_something = left_alone t meets;
  nineteen_on_D = λ lent e. ap (λ (a : Answer). a.steps) (gives t meets D lent _ e D-gives);
}
