-- What the program's words ask for.
use Rattle.std.specs.Prelude.{◌≡◌, Bool, true, ℕ, Option, Some, option_and_then}
use Rattle.rules.specs.Format.{Bytes}
use Rattle.rules.specs.Product.{bytes, decimal}
use Rattle.digits.specs.Digits.{cut, number_in}
use Rattle.retimed.specs.Retime.{Change, from_to}
use Rattle.retime.specs.Shape.{change_in}
use Rattle.retime.specs.declared.change.Asked.{Asked}
use Rattle.retime.specs.declared.change.Change as D

-- ---- new times

abbrev pub asks : ℕ → ℕ → ℕ → ℕ → Asked
asks t k least greatest = record { thread = t; statement = k; least = least; greatest = greatest }

-- thread, statement, least and greatest time, each in digits
unfoldable pub asked_in : Bytes → Bytes → Bytes → Bytes → Option Asked
asked_in thread statement least greatest =
    option_and_then (λ t. option_and_then (λ k. option_and_then (λ l. option_and_then (λ g. Some (asks t k l g))
    (number_in greatest)) (number_in least)) (number_in statement)) (number_in thread)

-- ---- a change to be taken back

-- a statement with its old times, and its new times in digits
unfoldable pub back_in : Option Asked → Bytes → Bytes → Option D.Change
back_in old least greatest =
    option_and_then (λ a. option_and_then (λ l. option_and_then (λ g.
    Some (change_in (from_to a.thread a.statement a.least a.greatest l g)))
    (number_in greatest)) (number_in least)) old

-- a change as its six numbers are told
abbrev pub cut_change : Change → Change
cut_change c = from_to (cut c.thread) (cut c.statement) (cut c.old_least) (cut c.old_greatest) (cut c.new_least) (cut c.new_greatest)

-- ---- the claims: all numbers are read from their own decimals, as far as they are not cut

abbrev pub WordsRead : Type 0
WordsRead = (t k least greatest : ℕ) → asked_in (decimal t) (decimal k) (decimal least) (decimal greatest) ≡ Some (asks (cut t) (cut k) (cut least) (cut greatest))

abbrev pub BackRead : Type 0
BackRead = (c : Change)
    → back_in (asked_in (decimal c.thread) (decimal c.statement) (decimal c.old_least) (decimal c.old_greatest)) (decimal c.new_least) (decimal c.new_greatest)
    ≡ Some (change_in (cut_change c))

-- ---- a word is "write", and only then the answer is yes

pub record Says (word : Bytes) (yes : Bool) : Type 0 where
  pub then_yes : word ≡ bytes "write" → yes ≡ true
  pub only_then : yes ≡ true → word ≡ bytes "write"
