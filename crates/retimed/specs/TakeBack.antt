-- A change of times taken back (02, ticket 8).
use Rattle.std.specs.Prelude.{◌≡◌, Bool, ◌&&◌, List, [], ◌∷◌, ℕ, eqb, if◌then◌else◌}
use Rattle.rules.specs.Refusal.{number, off_range, changed_since}
use Rattle.rules.specs.Program.{Statement}
use Rattle.rules.specs.Format.{Bytes, Got, bad, got, need}
use Rattle.retimed.specs.Retime.{retimed, may_have, on_statement, Change, change}

-- ---- one change

-- whether two times, least and greatest, are these two
abbrev pub same_times : ℕ → ℕ → ℕ → ℕ → Bool
same_times a b c d = eqb a c && eqb b d

-- "If the statement no longer shows the new times": whether it has these
unfoldable pub shows : Statement → ℕ → ℕ → Bool
shows x least greatest = same_times x.least x.greatest least greatest

-- "Refused: the sheet's own number, then 5 for no such statement, then 4 for old times it may not have, then 18 changed since, these
-- with place 0". Otherwise the sheet with the old times
abbrev pub take_back_times : Bytes → Change → Got Bytes
take_back_times s c =
    on_statement s c.thread c.statement (λ x e.
    need (may_have x c.old_least c.old_greatest) off_range 0 (
    need (shows x c.new_least c.new_greatest) changed_since 0 (
    got (retimed s x.place c.old_least c.old_greatest) e)))

-- the answer of the call, 0 and 0 where the change is taken back, and what the sheet holds afterwards
pub record TakenBack : Type 0 where
  pub refusal : ℕ
  pub place : ℕ
  pub sheet : Bytes

-- refused, "nothing is written"
unfoldable pub taken_back : Bytes → Got Bytes → TakenBack
taken_back s (bad r p) = record { refusal = number r; place = p; sheet = s }
taken_back s (got old e) = record { refusal = 0; place = 0; sheet = old }

unfoldable pub take_back : Bytes → Change → TakenBack
take_back s c = taken_back s (take_back_times s c)

-- ---- "Several changes with nothing else written between, taken back last first"

-- s became now by these changes, the last of them first
pub data Changes (s : Bytes) : List Change → Bytes → Type 0 where
  none : Changes s [] s
  one_more : {cs : List Change} {now : Bytes} (t k least greatest : ℕ) → Changes s cs now → (change now t k least greatest).refusal ≡ 0
      → Changes s ((change now t k least greatest).change ∷ cs) (change now t k least greatest).sheet

-- each taken back in the sheet that the one before it left; a refusal ends it
unfoldable pub take_all_back : List Change → Bytes → TakenBack
take_all_back [] s = record { refusal = 0; place = 0; sheet = s }
take_all_back (c ∷ cs) s = let r = take_back s c in if eqb r.refusal 0 then take_all_back cs r.sheet else r
