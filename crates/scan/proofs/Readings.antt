-- Readings one behind the other, what was read replaced, a line's end, and a range's two ends.
use Rattle.std.specs.Prelude.{if◌then◌else◌, Result, Err, IsErrAnd}
use Rattle.std.proofs.lemmas.Result.{err_from_is_err_and}
use mathlib.Core.Path.{◌≡◌, refl, sym, ap, ◌∙◌}
use mathlib.Core.Bool.{Bool, true, false}
use mathlib.Core.List.{[], ◌∷◌}
use Prim.Native.Nat.{ℕ}
use native.Mathlib.Omega.{arith}
use lib.Dec.{eqb}
use Rattle.rules.specs.Format.{Bytes}
use Rattle.text.specs.Words.{bytes, Read, stop, took, then_read, map_read, spaces, symbol, newline, line_end}
use Rattle.text.specs.Lines.{range, word_only, head_line}

-- at the exit of a `?`
pub exits : {T E : Type 0} (P : Result T E → Type 0) {r : Result T E} {q : E} → IsErrAnd r (λ e. e ≡ q) → P (Err q) → P r
exits P {r} i h = let p = err_from_is_err_and r i in rw (p.1, p.2) h

-- ---- what was read replaced

pub map-map : {A B C : Type 0} (f : A → B) (g : B → C) (x : Read A) → map_read g (map_read f x) ≡ map_read (λ a. g (f a)) x
unfolding map_read
map-map f g (stop r) = refl
map-map f g (took a r) = refl

-- what a reading that is kept says of the reading
pub map-stop : {A B : Type 0} (f : A → B) {t : Bytes} (g : Read A) → stop t ≡ map_read f g → g ≡ stop t
unfolding map_read
map-stop f (stop r) e = cc
map-stop f {t} (took a r) e = let e' : ◌≡◌ {A = Read _} (stop t) (took (f a) r) = e in let z : ◌≡◌ {A = ℕ} 0 1 = cc in absurd (omega arith)

pub map-took : {A B : Type 0} (f : A → B) {b : B} {t : Bytes} (g : Read A) → took b t ≡ map_read f g → (a : A) × ((g ≡ took a t) × (b ≡ f a))
unfolding map_read
map-took f {b} {t} (stop r) e = let e' : ◌≡◌ {A = Read _} (took b t) (stop r) = e in let z : ◌≡◌ {A = ℕ} 0 1 = cc in absurd (omega arith)
map-took f (took a r) e = (a, (cc, cc))

-- ---- one behind the other

pub then-assoc : {A B C : Type 0} (g : Read A) (f : A → Bytes → Read B) (k : B → Bytes → Read C)
    → then_read (then_read g f) k ≡ then_read g (λ a t. then_read (f a t) k)
unfolding then_read
then-assoc (stop r) f k = refl
then-assoc (took a r) f k = refl

pub then_map : {A B C : Type 0} (g : Read A) (f : A → Bytes → Read B) (k : B → C) → map_read k (then_read g f) ≡ then_read g (λ a t. map_read k (f a t))
unfolding then_read map_read
then_map (stop r) f k = refl
then_map (took a r) f k = refl

pub map-then : {A B C : Type 0} (f : A → B) (g : Read A) (k : B → Bytes → Read C) → then_read (map_read f g) k ≡ then_read g (λ a t. k (f a) t)
unfolding then_read map_read
map-then f (stop r) k = refl
map-then f (took a r) k = refl

pub same_then : {A B : Type 0} (g : Read A) {f h : A → Bytes → Read B} → ((a : A) (r : Bytes) → f a r ≡ h a r) → then_read g f ≡ then_read g h
unfolding then_read
same_then (stop r) k = refl
same_then (took a r) k = k a r

pub then-stop : {A B : Type 0} (g : Read A) (f : A → Bytes → Read B) {t : Bytes} → g ≡ stop t → then_read g f ≡ stop t
unfolding then_read
then-stop g f e = rw e

pub then-took : {A B : Type 0} (g : Read A) (f : A → Bytes → Read B) {a : A} {t : Bytes} → g ≡ took a t → then_read g f ≡ f a t
unfolding then_read
then-took g f e = rw e

-- ---- a line's end keeps what was read

newline-map : {A B : Type 0} (f : A → B) (a : A) (t : Bytes) → newline (f a) t ≡ map_read f (newline a t)
unfolding newline map_read
newline-map f a [] = refl
newline-map f a (c ∷ t) = by (eqb c 10)
  where
    by : (x : Bool) → (if x then took (f a) t else stop (c ∷ t)) ≡ map_read f (if x then took a t else stop (c ∷ t))
    by true = refl
    by false = refl

line-end-map : {A B : Type 0} (f : A → B) (a : A) (t : Bytes) → line_end (f a) t ≡ map_read f (line_end a t)
unfolding line_end
line-end-map f a t = newline-map f a (spaces t)

pub map-ended : {A B : Type 0} (f : A → B) (g : Read A) → then_read (map_read f g) line_end ≡ map_read f (then_read g line_end)
map-ended f g = map-then f g line_end ∙ same_then g (line-end-map f) ∙ sym (then_map g line_end f)

module _ {A B : Type 0} (a : A) (b : B) (t : Bytes) where
  pub line-end-stop : {w : Bytes} → line_end a t ≡ stop w → line_end b t ≡ stop w
  unfolding map_read
  line-end-stop e = line-end-map (λ _. b) a t ∙ ap (map_read (λ _. b)) e

  pub line-end-took : {c : A} {w : Bytes} → line_end a t ≡ took c w → line_end b t ≡ took b w
  unfolding map_read
  line-end-took e = line-end-map (λ _. b) a t ∙ ap (map_read (λ _. b)) e

-- a line of a word and what stands behind it
pub head-map : {A B : Type 0} (w : Bytes) (one : Bytes → Read A) (f : A → B) (s : Bytes) → head_line w (λ t. map_read f (one t)) s ≡ map_read f (head_line w one s)
unfolding head_line
head-map w one f s = ap (λ g. then_read g line_end) (sym (then_map (word_only w s) (λ _ t. one t) f)) ∙ map-ended f (then_read (word_only w s) (λ _ t. one t))

pub same_head : {A : Type 0} (w : Bytes) {one other : Bytes → Read A} → ((t : Bytes) → one t ≡ other t) → (s : Bytes) → head_line w one s ≡ head_line w other s
unfolding head_line
same_head w h s = ap (λ g. then_read g line_end) (same_then (word_only w s) (λ _ t. h t))

-- ---- two ends

pub range-map : {A B C : Type 0} (one : Bytes → Read A) (g : A → A → B) (f : B → C) (t : Bytes) → map_read f (range one g t) ≡ range one (λ x y. f (g x y)) t
unfolding range
range-map one g f t =
    then_map (one t) (λ a r. then_read (symbol (bytes "..") r) (λ _ u. map_read (g a) (one u))) f
    ∙ same_then (one t) (λ a r. then_map (symbol (bytes "..") r) (λ _ u. map_read (g a) (one u)) f ∙ same_then (symbol (bytes "..") r) (λ _ u. map-map (g a) f (one u)))

-- each end replaced
pub range-each : {A B C : Type 0} (one : Bytes → Read A) (c : A → B) (f : B → B → C) (t : Bytes) → range (λ u. map_read c (one u)) f t ≡ range one (λ x y. f (c x) (c y)) t
unfolding range
range-each one c f t =
    map-then c (one t) (λ a r. then_read (symbol (bytes "..") r) (λ _ u. map_read (f a) (map_read c (one u))))
    ∙ same_then (one t) (λ a r. same_then (symbol (bytes "..") r) (λ _ u. map-map c (f (c a)) (one u)))
