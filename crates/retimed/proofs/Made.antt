-- A change that is made, and the times that a statement has.
use mathlib.Core.Path.{◌≡◌, refl, sym, ap, ◌∙◌}
use mathlib.Core.Bool.{Bool, true, false}
use Prim.Native.Nat.{ℕ}
use native.Mathlib.Omega.{arith}
use lib.Dec.{T, le→leb}
use Rattle.rules.specs.Refusal.{Refusal}
use Rattle.rules.specs.Constants.{greatest_time}
use Rattle.rules.specs.Program.{Program, no_statement, no_thread}
use Rattle.rules.specs.Format.{Bytes, AreBytes, Got, bad, got, times_fit, read_sheet}
use Rattle.rules.specs.Encoding.{code_of, encode}
use Rattle.rules.specs.Fits.{StatementFits, ThreadFits}
use Rattle.rules.proofs.Base.{and_both, each-get}
use Rattle.rules.proofs.Refusal.{positive}
use Rattle.rules.proofs.IfAt.{is_true}
use Rattle.rules.proofs.SearchNumbers.{no-sheet-fault}
use Rattle.rules.proofs.Encoding.{reads_written}
use Rattle.reader.specs.Facts.{thread_in, statement_in}
use Rattle.retimed.specs.Retime.{retimed, is_statement, may_have, did, Changed, change_times, change, with_times, retime, checked}
use Rattle.retimed.specs.Claims.{Made}
use Rattle.retimed.proofs.TimeBytes.{retimed-length, retimed-other, retimed-least, retimed-greatest, retimed-bytes}
use Rattle.retimed.proofs.Edit.{edited-same}
use Rattle.retimed.proofs.Retime.{thread-there, statement-there, may-times, may-small, retime-bytes, retimed-reads}
use Rattle.retimed.proofs.Change.{sheet-unread, statement-absent, times-off, times-made, change-refused, change-made, statement-room, least_small, greatest_small}
use Rattle.retimed.proofs.Preview.{preview-room}

module _ (s : Bytes) (o : AreBytes s) (t k l h : ℕ) (g : Program) (e : ℕ) (r : read_sheet s ≡ got g e) (i : T (is_statement g t k)) (m : T (may_have (statement_in g t k) l h)) where
  abbrev p : ℕ
  p = (statement_in g t k).place

  abbrev new : Bytes
  new = retimed s p l h

  reads : read_sheet new ≡ got (retime g t k l h) e
  reads =
      let x = statement_in g t k in
      retimed-reads s o g e t k r (thread-there g t k i) (statement-there g t k i) l h (may-times x l h m) (may-small x l h m)

  pub made : Made s new g e t k l h p
  unfolding checked
  made =
      let room = statement-room s t k g e r i in
      let outcome = times-made s t k l h g e r i m in
      record {
        answered = change-made s t k l h outcome;
        reads = reads;
        four_inside = room;
        least_written = retimed-least s p l h room;
        greatest_written = retimed-greatest s p l h room;
        before_them = λ j b. retimed-other s p l h j (λ c. absurd (omega arith));
        behind_them = λ j b. retimed-other s p l h j (λ _. b);
        as_long = retimed-length s p l h;
        are_bytes = retimed-bytes s o p l h (least_small s t k g e r i l h m) (greatest_small s t k g e r i l h m);
        previewed = λ c n w. preview-room s c n t k l h g e r w ∙ ap (checked n) outcome;
        of_search = λ n. no-sheet-fault new n (retime g t k l h) e reads;
      }

-- the times that it has may be given it again
module _ (s : Bytes) (o : AreBytes s) (t k : ℕ) (g : Program) (e : ℕ) (r : read_sheet s ≡ got g e) (i : T (is_statement g t k)) where
  pub own-times : T (may_have (statement_in g t k) (statement_in g t k).least (statement_in g t k).greatest)
  unfolding may_have
  own-times =
      let fits = (reads_written s o g e r).0.fits in
      let a = thread-there g t k i in let b = statement-there g t k i in
      let x = statement_in g t k in
      let w = each-get (StatementFits _) (thread_in g t).statements k no_statement (each-get (ThreadFits _ _) g.threads t no_thread fits.threads a).statements b in
      and_both (times_fit (code_of x.action) x.least x.greatest) _ w.times (le→leb x.greatest greatest_time w.two_bytes)

  same-program : retime g t k (statement_in g t k).least (statement_in g t k).greatest ≡ g
  unfolding with_times
  same-program = edited-same g t k (thread-there g t k i) (statement-there g t k i)

  pub same-sheet : retimed s (statement_in g t k).place (statement_in g t k).least (statement_in g t k).greatest ≡ s
  same-sheet =
      let w = (reads_written s o g e r).0 in
      let x = statement_in g t k in
      ap (λ (l : Bytes). retimed l x.place x.least x.greatest) (sym w.written)
      ∙ retime-bytes g w.places t k (thread-there g t k i) (statement-there g t k i) x.least x.greatest
      ∙ ap encode same-program ∙ w.written

  pub same_again : change s t k (statement_in g t k).least (statement_in g t k).greatest
      ≡ record { refusal = 0; place = 0; change = did t k (statement_in g t k) (statement_in g t k).least (statement_in g t k).greatest; sheet = s }
  same_again =
      let x = statement_in g t k in
      change-made s t k x.least x.greatest (times-made s t k x.least x.greatest g e r i own-times)
      ∙ (λ j. record { refusal = 0; place = 0; change = did t k x x.least x.greatest; sheet = same-sheet j })

-- ---- what a change that is not refused was made of

pub record MadeOf (s : Bytes) (t k l h : ℕ) : Type 0 where
  pub program : Program
  pub end : ℕ
  pub reads : read_sheet s ≡ got program end
  pub there : T (is_statement program t k)
  pub may : T (may_have (statement_in program t k) l h)

pub made_of : (s : Bytes) (t k l h : ℕ) → (change s t k l h).refusal ≡ 0 → MadeOf s t k l h
made_of s t k l h z = by-sheet (read_sheet s) refl
  where
    refuses : {r : Refusal} {p : ℕ} → change_times s t k l h ≡ bad r p → MadeOf s t k l h
    refuses {r} c = absurd (positive r (ap (λ (x : Changed). x.refusal) (sym (change-refused s t k l h c)) ∙ z))

    by_tests : (g : Program) (e : ℕ) → read_sheet s ≡ got g e → (b c : Bool) → is_statement g t k ≡ b → may_have (statement_in g t k) l h ≡ c → MadeOf s t k l h
    by_tests g e r true true i m =
        record { program = g; end = e; reads = r; there = is_true (is_statement g t k) i; may = is_true (may_have (statement_in g t k) l h) m }
    by_tests g e r true false i m = refuses (times-off s t k l h g e r (is_true (is_statement g t k) i) m)
    by_tests g e r false c i m = refuses (statement-absent s t k _ g e r i)

    by-sheet : (G : Got Program) → read_sheet s ≡ G → MadeOf s t k l h
    by-sheet (bad r p) q = refuses (sheet-unread s t k _ q)
    by-sheet (got g e) q = by_tests g e q (is_statement g t k) (may_have (statement_in g t k) l h) refl refl

-- what holds of it
module _ (s : Bytes) (o : AreBytes s) (t k l h : ℕ) (z : (change s t k l h).refusal ≡ 0) where
  abbrev what : MadeOf s t k l h
  what = made_of s t k l h z

  pub was-made : Made s (retimed s (statement_in what.program t k).place l h) what.program what.end t k l h (statement_in what.program t k).place
  was-made = made s o t k l h what.program what.end what.reads what.there what.may
