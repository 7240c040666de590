-- What going through the entries of a corpus comes to.
use Rattle.std.specs.Prelude.{◌≡◌, ℕ, zero, suc, ◌<◌, ◌⊎◌, List, length, Option, Some, None}
use Rattle.std.specs.Int.{w32, from_be_bytes}
use Rattle.std.specs.Fn.{Mut, CalledWithState}
use Rattle.std.specs.Io.KnownBytes.{Consumes}
use denote.Ref.{MutBor}

-- fewer bytes than n were taken
abbrev pub ConsumesBelow : ℕ → Option (List ℕ) → Option (List ℕ) → Type 0
ConsumesBelow n old new = (bytes : List ℕ) × (length bytes < n) × Consumes old new bytes

module _ {F S T : Type 0} (g : Mut F (MutBor S × (T × Unit {0})) (Option T × (MutBor S × Unit {0}))) where
  -- so many calls, each on what the one before left and gave: they begin at f, s and t, and come to f', s' and t'
  abbrev pub Calls : ℕ → F → S → T → F → S → T → Type 0
  Calls zero f s t f' s' t' = (f' ≡ f) × (s' ≡ s) × (t' ≡ t)
  Calls (suc n) f s t f' s' t' = (h : F) × (u : S) × (x : T) × Calls n f s t h u x × CalledWithState g h u x (Some t') f' s'

  -- r is what the calls for so many entries came to: a call for each, or calls for fewer and then one that gave none
  abbrev pub GoesThrough : ℕ → F → S → T → S → T → Type 0
  GoesThrough count f s t s' r = (n : ℕ) × (h : F) × (u : S) × Calls n f s t h u r
      × (((n ≡ count) × (s' ≡ u)) ⊎ ((n < count) × ((f' : F) × CalledWithState g h u r None f' s')))

  -- the number of the entries is the four bytes in front
  abbrev pub GoesThroughAll : (S → Option (List ℕ)) → F → S → T → S → T → Type 0
  GoesThroughAll remaining f s t s' r = (front : List ℕ) × (u : S) × (length front ≡ 4) × Consumes (remaining s) (remaining u) front
      × GoesThrough (from_be_bytes w32 front) f u t s' r
