-- The time bytes, two by two.
use Rattle.std.specs.Int.{w16, to_be_bytes}
use Rattle.std.proofs.Common.{◌≡◌, ℕ, zero, suc, ◌+◌, ◌-◌, ◌/◌, ◌%◌, ◌≤◌, ◌<◌, [], ◌∷◌, length, set, refl, sym, ap, ◌∙◌, length-set, arith}
use borrow.Rule.Slice.PartMut.{put_mid}
use Rattle.rules.specs.Format.{Bytes}
use Rattle.retimed.specs.Retime.{retimed}

time-bytes : (n : ℕ) → n < 65536 → to_be_bytes w16 n ≡ n / 256 ∷ n % 256 ∷ []
time-bytes n h = let e : n / 256 % 256 ≡ n / 256 = omega arith in rw e

put-two : (a : ℕ) (s : Bytes) (u v : ℕ) → a + 2 ≤ length s → put_mid a 2 s (u ∷ v ∷ []) ≡ set (set s a u) (suc a) v
put-two a [] u v h = absurd (omega arith)
put-two zero (x ∷ []) u v h = absurd (omega arith)
put-two zero (x ∷ y ∷ s) u v h = refl
put-two (suc a) (x ∷ s) u v h = ap (λ (r : Bytes). x ∷ r) (put-two a s u v (omega arith))

-- a time in the two bytes from a on
put-time : (s : Bytes) (a k i : ℕ) (n : ℕ) {b : Bytes} → k ≡ 2 → i ≡ suc a → a + 2 ≤ length s → n < 65536 → b ≡ to_be_bytes w16 n
    → put_mid a k s b ≡ set (set s a (n / 256)) i (n % 256)
put-time s a k i n two next room small e =
    (λ t. put_mid a (two t) s ((e ∙ time-bytes n small) t)) ∙ put-two a s (n / 256) (n % 256) room
    ∙ ap (λ (j : ℕ). set (set s a (n / 256)) j (n % 256)) (sym next)

pub times-written : (s : Bytes) (p l g : ℕ) → p + 7 ≤ length s → l < 65536 → g < 65536 → {a b : Bytes} → a ≡ to_be_bytes w16 l → b ≡ to_be_bytes w16 g
    → put_mid (p + 5) (p + 7 - (p + 5)) (put_mid (p + 3) (p + 5 - (p + 3)) s a) b ≡ retimed s p l g
unfolding retimed
times-written s p l g room i j {b = b} e f =
    let least = set (set s (p + 3) (l / 256)) (p + 4) (l % 256) in
    ap (λ (r : Bytes). put_mid (p + 5) (p + 7 - (p + 5)) r b) (put-time s (p + 3) (p + 5 - (p + 3)) (p + 4) l (omega arith) (omega arith) (omega arith) i e)
    ∙ put-time least (p + 5) (p + 7 - (p + 5)) (p + 6) g (omega arith) (omega arith) (simp length-set (omega arith)) j f
