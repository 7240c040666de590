-- Signs that join two operands, as the rules' own.
use Rattle.std.specs.Prelude.{◌≡◌, ◌&&◌, List, ◌∷◌, ◌++◌, ℕ, ◌≤◌, ◌<◌, length, drop, Option, Some, None, Result, Ok, Err}
use Rattle.rules.specs.Format.{Bytes}
use Rattle.text.specs.Words.{spaces, Word}
use Rattle.text.specs.Notation.{Link, joined, none_here, broken, link}
use Rattle.scan.specs.Writing.{Form}

-- a code's byte, then both sides
pub record Coded {A B : Type 0} (F : Form A) (G : Form B) (c : ℕ) (f : A → A → B) : Type 0 where
  pub bytes_are : (a b : A) → G.bytes (f a b) ≡ (c ∷ F.bytes a) ++ F.bytes b
  pub fits_are : (a b : A) → G.fits (f a b) ≡ (F.fits a && F.fits b)

-- a sign's code and the place behind it, or none; or the place where one that is begun cannot go on. A code joins by what m says
abbrev pub link_of : {M : Type 0} → (ℕ → M) → Bytes → Result (Option (ℕ × ℕ)) ℕ → Link M
link_of m s (Ok (Some (c, q))) = joined (m c) (drop q s)
link_of m s (Ok None) = none_here
link_of m s (Err q) = broken (drop q s)

abbrev pub SignFits : {A B : Type 0} → Form A → Form B → (ℕ → A → A → B) → Bytes → ℕ → Result (Option (ℕ × ℕ)) ℕ → Type 0
SignFits F G m s p (Ok (Some (c, q))) = (p < q) × (q ≤ length s) × Coded F G c (m c)
SignFits F G m s p (Ok None) = Unit {0}
SignFits F G m s p (Err q) = (p < q) × (q ≤ length s)

-- the sign that stands next, and its code is the one that the sheet has for it
pub record SignRead {A B : Type 0} (F : Form A) (G : Form B) (m : ℕ → A → A → B) (ws : List (Word (A → A → B))) (s : Bytes) (p : ℕ) (r : Result (Option (ℕ × ℕ)) ℕ) : Type 0 where
  pub is : link_of m s r ≡ link ws (spaces (drop p s))
  pub fits : SignFits F G m s p r
