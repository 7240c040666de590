-- Statements with their times: what they read, and what they write of their field.
use Rattle.std.specs.Prelude.{Ok}
use mathlib.Core.Path.{◌≡◌, refl, sym, ap, subst, ◌∙◌}
use mathlib.Core.Bool.{Bool, false, ◌&&◌}
use mathlib.Core.List.{◌++◌}
use Prim.Native.Nat.{ℕ, suc, ◌+◌, ◌-◌, ◌<◌, min}
use native.Mathlib.Omega.{arith}
use borrow.Author.Tests.{le-ltb}
use lib.Dec.{T, ltb}
use lib.ListN.{length, drop, length-append}
use lib.Seq.{sets}
use Rattle.rules.specs.Format.{Bytes}
use Rattle.rules.specs.Program.{Action}
use Rattle.rules.specs.Encoding.{field, code_of, encode_operands, encode_body}
use Rattle.rules.proofs.Base.{and_left, and_right}
use Rattle.text.specs.Words.{stop, took, then_read, map_read, number, spaces, line_end}
use Rattle.text.specs.Lines.{Line, statement_line, range, timed, action_here, due_after}
use Rattle.text.specs.Convert.{fits_two, line_fits, field_of}
use Rattle.scan.specs.Reading.{capped}
use Rattle.scan.specs.Writing.{Wrote}
use Rattle.scan.proofs.WordLaws.{capped-below, capped_same}
use Rattle.scan.proofs.Readings.{line-end-stop, line-end-took, then-stop, then-took}
use Rattle.lines.specs.Reading.{one_end, pair, pair_of}
use Rattle.lines.specs.Writing.{front_bytes, times_small, put_timed, Acts, Lines}
use Rattle.lines.specs.declared.ranges.Pair.{Pair}
use Rattle.scan.specs.declared.step.Built.{Built}
use Rattle.lines.specs.declared.line.Due.TheVariants as due
use Rattle.lines.proofs.ActionLaws.{wrote-before, if-true}
use Rattle.lines.proofs.RangeLaws.{range-stops, range-takes}

-- ---- times

two_is : (v : ℕ) → ltb (capped v) 65536 ≡ fits_two v
unfolding fits_two
two_is v = capped-below 65536 v (omega arith)

abbrev makes : ℕ → ℕ → Action → Line
makes a b x = statement_line a b x

-- how long a statement's body is: times, code and operands
abbrev body_size : Action → ℕ
body_size y = suc (suc (suc (suc (suc (length (encode_operands y))))))

-- ---- what a statement says, with what it does

pub timed-timeless : (t : Bytes) {w : Bytes} → stop w ≡ range (one_end false) pair t → then_read (timed t) line_end ≡ stop w
unfolding timed
timed-timeless t e = then-stop _ line_end (then-stop _ _ (range-stops {B = Action → Line} capped makes number t _ (sym e)))

module _ (s : Bytes) (q : ℕ) (x : Pair) (h : pair_of pair s (Ok x) ≡ range (one_end false) pair (drop q s)) (word : ℕ)
    (k : drop word s ≡ spaces (drop x.place s)) where
  pub timed-stops : {w : Bytes} → action_here (drop word s) ≡ stop w → then_read (timed (drop q s)) line_end ≡ stop w
  unfolding timed map_read
  timed-stops e =
      let z = range-takes {B = Action → Line} capped makes number (drop q s) (drop x.place s) (sym h) in
      then-stop _ line_end (then-took _ _ z.reads ∙ ap (λ t. map_read (makes z.low z.high) (action_here t)) (sym k)
      ∙ ap (map_read (makes z.low z.high)) e)

  record Timed (y : Action) (w : Bytes) : Type 0 where
    pub least : ℕ
    pub greatest : ℕ
    pub reads : timed (drop q s) ≡ took (statement_line least greatest y) w
    pub least-is : x.low ≡ capped least
    pub greatest-is : x.high ≡ capped greatest

  timed-took : {y : Action} {w : Bytes} → action_here (drop word s) ≡ took y w → Timed y w
  unfolding timed map_read
  timed-took {y} {w} e =
      let z = range-takes {B = Action → Line} capped makes number (drop q s) (drop x.place s) (sym h) in
      record {
        least = z.low;
        greatest = z.high;
        reads = then-took _ _ z.reads ∙ ap (λ t. map_read (makes z.low z.high) (action_here t)) (sym k)
            ∙ ap (map_read (makes z.low z.high)) e;
        least-is = z.low_is;
        greatest-is = z.high_is;
      }

  pub timed-endless : (o m : Bytes) (from : ℕ) (y : Built ℕ) {w : Bytes} → Acts s o from m (action_here (drop word s)) (Ok y)
      → stop w ≡ line_end {A = Unit {0}} tt (drop y.place s)
      → then_read (timed (drop q s)) line_end ≡ stop w
  unfolding Acts
  timed-endless o m from y a e =
      let z = timed-took a.is in
      then-took _ line_end z.reads ∙ line-end-stop tt (statement_line z.least z.greatest a.thing) (drop y.place s) (sym e)

  -- ---- its line

  module _ (o m after : Bytes) (at from : ℕ) (sm : length o < 65536) (room : length m ≡ length o) (hf : from ≡ min (at + 8) 65536) where
    front-is : (a b c : ℕ) (y : Action) (end : ℕ) (f : Bool) → x.low ≡ capped a → x.high ≡ capped b → c ≡ code_of y
        → after ≡ put_timed m at end x c → Wrote o from (encode_operands y) f m end
        → Wrote o at (field 6 (encode_body a b y)) (times_small x && f) after end
    front-is a b c y end f ku kv kc ha w =
        wrote-before o m after at from end (front_bytes (body_size y) a b (code_of y)) (encode_operands y) (times_small x) f hf sm w
        (λ t _ l.
        let i = w.end_is in
        let j : length (front_bytes (body_size y) a b (code_of y) ++ encode_operands y) ≡ 8 + length (encode_operands y) = length-append
        (front_bytes (body_size y) a b (code_of y)) (encode_operands y) in
        let ee : end ≡ at + 8 + length (encode_operands y) = omega arith in
        let n₁ : ltb (length m) end ≡ false = le-ltb (length m) end (omega arith) in
        let n₂ : ltb end (at + 8) ≡ false = le-ltb end (at + 8) (omega arith) in
        let size : end - at - 3 ≡ body_size y = omega arith in
        let ua : x.low ≡ a = ku
        ∙ capped_same 65536 a (omega arith) (subst (λ z. T (ltb z 65536)) ku (and_left (ltb x.low 65536) (ltb x.high 65536) t)) in
        let vb : x.high ≡ b = kv
        ∙ capped_same 65536 b (omega arith) (subst (λ z. T (ltb z 65536)) kv (and_right (ltb x.low 65536) (ltb x.high 65536) t)) in
        ha ∙ chosen n₁ n₂ t
        ∙ ap (λ z. sets m at (front_bytes z x.low x.high c)) size ∙ ap (λ z. sets m at (front_bytes (body_size y) z x.high c)) ua
        ∙ ap (λ z. sets m at (front_bytes (body_size y) a z c)) vb ∙ ap (λ z. sets m at (front_bytes (body_size y) a b z)) kc)
      where
        chosen : ltb (length m) end ≡ false → ltb end (at + 8) ≡ false → T (times_small x)
            → put_timed m at end x c ≡ sets m at (front_bytes (end - at - 3) x.low x.high c)
        chosen h k t = rw (h, k) (if-true (times_small x) (sets m at (front_bytes (end - at - 3) x.low x.high c)) m t)

    pub timed-put : (y : Built ℕ) (fits : Bool) (place : ℕ) → Acts s o from m (action_here (drop word s)) (Ok y)
        → took tt (drop place s) ≡ line_end {A = Unit {0}} tt (drop y.place s)
        → after ≡ put_timed m at y.end x y.kind → fits ≡ (times_small x && y.fits)
        → Lines s o at after (then_read (timed (drop q s)) line_end)
        (Ok (record { kind = due.Statement; place = place; end = y.end; fits = fits }))
    unfolding Acts Lines due_after line_fits field_of
    timed-put y fits place a e ha hs =
        let z = timed-took a.is in
        record {
          thing = statement_line z.least z.greatest a.thing;
          is = then-took _ line_end z.reads ∙ line-end-took tt (statement_line z.least z.greatest a.thing) (drop y.place s) (sym e);
          kind_is = refl;
          fit_is = hs ∙ ap (λ g. (g && ltb x.high 65536) && y.fits) (ap (λ g. ltb g 65536) z.least-is ∙ two_is z.least)
              ∙ ap (λ g. (fits_two z.least && g) && y.fits) (ap (λ g. ltb g 65536) z.greatest-is ∙ two_is z.greatest)
              ∙ ap (λ g. (fits_two z.least && fits_two z.greatest) && g) a.fit_is;
          wrote = let w = front-is z.least z.greatest y.kind a.thing y.end y.fits z.least-is z.greatest-is a.kind_is ha a.wrote in rw hs w;
        }
