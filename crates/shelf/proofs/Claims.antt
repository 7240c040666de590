-- The claims of `specs/Claims.antt`, proved.
use mathlib.Core.Path.{◌≡◌, refl, sym, subst}
use mathlib.Core.Bool.{Bool, true, false, ◌||◌}
use Prim.Native.Nat.{ℕ, ◌+◌}
use native.Mathlib.Omega.{arith}
use lib.Dec.{T, leb, eqb, leb→le}
use Rattle.rules.specs.Refusal.{Refusal, number, short, bad_length, no_such_name}
use Rattle.rules.specs.Format.{Bytes, Got, bad, got, need, sized, has_body, num16}
use Rattle.rules.proofs.Refusal.{positive}
use Rattle.rules.proofs.Numbers.{Refuses, need-refuses, then-refuses, map-refuses, due-refuses}
use Rattle.shelf.specs.Pairs.{read_name, pass_sheet, Pair, read_pair, Look, hit, miss, stop, look_in}
use Rattle.shelf.specs.Lookup.{customers, ours, Answer, found, refused, look_on, lookup}
use Rattle.shelf.specs.Claims.{Without, Ends, in_customers, customers_stops, in_ours, ours_stops, neither, IsFirst, LookupClaims}
use Rattle.shelf.proofs.Look.{OfPair, look-each}
use Rattle.shelf.proofs.Says.{Says, look-says}
use Rattle.shelf.proofs.Only.{first-hits, without-misses, stops-stop}
use Rattle.shelf.proofs.Worked.{rows_hold}

-- ---- a pair is refused with 1, 2 or 3

abbrev OfField : Refusal → Type 0
OfField r = T (leb (number r) 3)

few-pair : (f : Bytes) (at : ℕ) → Refuses OfField (read_pair f at)
unfolding read_pair read_name pass_sheet sized need
few-pair f at =
    then-refuses OfField _ _
    (due-refuses OfField 48 f at _ tt tt (need-refuses OfField (has_body f at) short at _ tt (need-refuses OfField (eqb (num16 f (at + 1)) 1) bad_length at _ tt tt)))
    (λ name p. map-refuses OfField _ _ (due-refuses OfField 49 f p _ tt tt (need-refuses OfField (has_body f p) short p _ tt tt)))

abbrev FewIn : Look → Type 0
FewIn (hit p n) = Unit {0}
FewIn miss = Unit {0}
FewIn (stop r p) = OfField r

few-of-pair : (g : Got Pair) → Refuses OfField g → OfPair FewIn g
few-of-pair (bad r p) h = h
few-of-pair (got x q) h = tt

few-look : (name : ℕ) (f : Bytes) → FewIn (look_in name f)
few-look name f = look-each f name FewIn tt (λ at. few-of-pair (read_pair f at) (few-pair f at))

or_left : (a b : Bool) → T a → T (a || b)
or_left true b t = tt
or_left false b t = absurd t

-- ---- both files

-- the answer to what the two looks come to
abbrev answer_to : Look → Look → Answer
answer_to g k = look_on customers g (look_on ours k (refused ours no_such_name 0))

numbered : (g k : Look) → FewIn g → FewIn k → T (leb (answer_to g k).refusal 3 || eqb (answer_to g k).refusal 5)
unfolding look_on
numbered (hit p n) k x y = tt
numbered (stop r p) k x y = or_left (leb (number r) 3) (eqb (number r) 5) x
numbered miss (hit p n) x y = tt
numbered miss (stop r p) x y = or_left (leb (number r) 3) (eqb (number r) 5) y
numbered miss miss x y = tt

module _ (name : ℕ) (customer house : Bytes) where
  ended : (g k : Look) → Says name customer g → Says name house k → Ends name customer house (answer_to g k)
  unfolding look_on
  ended (hit p n) k s t = subst (λ (z : ℕ). Ends name customer house (found customers p z)) s.size (in_customers p _ s.first)
  ended (stop r p) k s t = customers_stops r p s
  ended miss (hit p n) s t = subst (λ (z : ℕ). Ends name customer house (found ours p z)) t.size (in_ours s p _ t.first)
  ended miss (stop r p) s t = ours_stops s r p t
  ended miss miss s t = neither s t

  is_first : (g k : Look) → Says name customer g → Says name house k → (answer_to g k).refusal ≡ 0 → IsFirst name customer house (answer_to g k)
  unfolding look_on
  is_first (hit p n) k s t e = record { first = s.first; same_file = refl; same_place = refl; customers_lacks = λ z. absurd (let w : ◌≡◌ {A = ℕ} 0 1 = cc in omega arith) }
  is_first (stop r p) k s t e = absurd (positive r e)
  is_first miss (hit p n) s t e = record { first = t.first; same_file = refl; same_place = refl; customers_lacks = λ _. s }
  is_first miss (stop r p) s t e = absurd (positive r e)
  is_first miss miss s t e = absurd (positive no_such_name e)

  both_lack : (g k : Look) → FewIn g → FewIn k → Says name customer g → Says name house k → (answer_to g k).refusal ≡ 5 → Without name customer × Without name house
  unfolding look_on
  both_lack (hit p n) k x y s t e = absurd (omega arith)
  both_lack (stop r p) k x y s t e = absurd (let l = leb→le (number r) 3 x in omega arith)
  both_lack miss (hit p n) x y s t e = absurd (omega arith)
  both_lack miss (stop r p) x y s t e = absurd (let l = leb→le (number r) 3 y in omega arith)
  both_lack miss miss x y s t e = (s, t)

  by-looks : {g k : Look} → look_in name customer ≡ g → look_in name house ≡ k → answer_to g k ≡ lookup name customer house
  unfolding lookup
  by-looks e f = λ i. answer_to (sym e i) (sym f i)

  only_one : (a : Answer) → Ends name customer house a → a ≡ lookup name customer house
  unfolding look_on
  only_one a (in_customers p sheet x) = by-looks (first-hits name customer p sheet x) refl
  only_one a (customers_stops r p x) = by-looks (stops-stop name customer r p x) refl
  only_one a (in_ours w p sheet x) = by-looks (without-misses name customer w) (first-hits name house p sheet x)
  only_one a (ours_stops w r p x) = by-looks (without-misses name customer w) (stops-stop name house r p x)
  only_one a (neither w x) = by-looks (without-misses name customer w) (without-misses name house x)

pub lookup-claims : LookupClaims
unfolding lookup
lookup-claims = record {
  rows_hold = rows_hold;
  ends = λ name c h bc bh. ended name c h (look_in name c) (look_in name h) (look-says name c bc) (look-says name h bh);
  only = only_one;
  first = λ name c h bc bh. is_first name c h (look_in name c) (look_in name h) (look-says name c bc) (look-says name h bh);
  five = λ name c h bc bh. both_lack name c h (look_in name c) (look_in name h) (few-look name c) (few-look name h) (look-says name c bc) (look-says name h bh);
  numbers = λ name c h. numbered (look_in name c) (look_in name h) (few-look name c) (few-look name h);
}
