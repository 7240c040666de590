-- Reading and writing a sheet are inverse: the claims of `Fits`.
use mathlib.Core.Path.{◌≡◌, sym, ap, subst, ◌∙◌}
use mathlib.Core.List.{List, ◌++◌}
use Prim.Native.Nat.{ℕ, ◌+◌, ◌≤◌}
use native.Mathlib.Omega.{arith}
use lib.Dec.{leb, leb→le, le→leb}
use lib.ListN.{length}
use Rattle.rules.specs.Refusal.{too_long}
use Rattle.rules.specs.Constants.{longest_sheet}
use Rattle.rules.specs.Interval.{Interval}
use Rattle.rules.specs.Program.{Thread, Header, Program}
use Rattle.rules.specs.Format.{Bytes, AreBytes, got, read_variables, read_threads, read_header, read_locks, read_sheet}
use Rattle.rules.specs.Encoding.{in_row, encode_range, encode_header, encode_locks, encode_thread, encode_front, encode, placed_row, placed_thread, placed}
use Rattle.rules.specs.Fits.{ProgramFits, SheetOf, Inverse}
use Rattle.rules.proofs.IfAt.{IfAt, need-at, then_at, when-got, need-yes, then-got}
use Rattle.rules.proofs.Stands.{Stands, stands-append, stands-left, stands-right, stands-whole, stands-all}
use Rattle.rules.proofs.FieldBytes.{LocksAt, locks-at, locks-read, HeaderAt, header_at, header-reads}
use Rattle.rules.proofs.Written.{written_bytes}
use Rattle.rules.proofs.SheetRows.{VariablesAt, variables-at, variables-read, ThreadsAt, threads-at, threads-read, first_thread}

-- s reads as g up to e
abbrev Reads : Bytes → Program → ℕ → Type 0
Reads s g e = SheetOf s g × (e ≡ length s)

module _ {s : Bytes} (o : AreBytes s) where
  sheet_of_lem : length s ≤ longest_sheet → (h : Header) (p k q : ℕ) (vs : List Interval) (r : ℕ) (ts : List Thread) (e : ℕ) → HeaderAt s h p → LocksAt s p k q → VariablesAt s q vs r
      → ThreadsAt (length vs) k s r ts e → Reads s (record { header = h; locks = k; vars = vs; threads = ts }) e
  unfolding encode encode_front placed
  sheet_of_lem le h p k q vs r ts e a b c d =
      let g : Program = record { header = h; locks = k; vars = vs; threads = ts } in
      let front : Stands (encode_front g) s 0 r = stands-append (stands-append a.bytes b.bytes) c.bytes in
      let all : Stands (encode g) s 0 e = stands-append front d.bytes in
      let same : encode g ≡ s = stands-all (encode g) s (subst (Stands (encode g) s 0) d.ends all) in
      let start : length (encode_front g) ≡ r = (let i = front.ends in omega arith) in
      let here : placed g ≡ g = (λ i. record { header = h; locks = k; vars = vs; threads = (ap (λ (j : ℕ). placed_row placed_thread encode_thread j ts) start ∙ d.placed) i }) in
      let fits : ProgramFits g = record {
        header = a.fits;
        locks_few = b.few;
        vars_few = c.few;
        vars = c.fits;
        some = d.some;
        few = d.few;
        threads = d.fits;
        short = subst (λ (l : Bytes). length l ≤ longest_sheet) (sym same) le;
      } in
      (record { written = same; places = here; fits = fits }, d.ends)

  sheet-at : IfAt (Reads s) (read_sheet s)
  unfolding read_sheet
  sheet-at =
      need-at (Reads s) (leb (length s) longest_sheet) too_long 0 _ (λ le.
      then_at (HeaderAt s) (Reads s) (read_header s) _ (header_at o) (λ h p a.
      then_at (LocksAt s p) (Reads s) (read_locks s p) _ (locks-at o p) (λ k q b.
      then_at (VariablesAt s q) (Reads s) (read_variables s q) _ (variables-at o q b.bytes.inside) (λ vs r c.
      then_at (ThreadsAt (length vs) k s r) (Reads s) (read_threads (length vs) k s r) _ (threads-at o (length vs) k r c.room c.tag) (λ ts e d.
      sheet_of_lem (leb→le (length s) longest_sheet le) h p k q vs r ts e a b c d)))))

pub reads_written : (s : Bytes) → AreBytes s → (g : Program) (e : ℕ) → read_sheet s ≡ got g e → SheetOf s g × (e ≡ length s)
reads_written s o g e h = when-got (Reads s) (read_sheet s) (sheet-at o) g e h

module _ {s : Bytes} (g : Program) (f : ProgramFits g) (le : length s ≤ longest_sheet) (h : Stands (encode g) s 0 (length s)) where
  standing-reads : read_sheet s ≡ got (placed g) (length s)
  unfolding read_sheet encode encode_front placed
  standing-reads =
      let fore = encode_header g.header ++ encode_locks g.locks in
      let vars = in_row (encode_range 2) g.vars in
      let r = length (fore ++ vars) in
      let front = stands-left (fore ++ vars) (in_row encode_thread g.threads) h in
      let start : 0 + r ≡ r = omega arith in
      let threads : Stands (in_row encode_thread g.threads) s r (length s) =
      subst (λ (j : ℕ). Stands (in_row encode_thread g.threads) s j (length s)) start (stands-right (fore ++ vars) (in_row encode_thread g.threads) h) in
      let two_fields = stands-left fore vars front in
      let row : Stands vars s 23 r = subst (Stands vars s 23) start (stands-right fore vars front) in
      let header = stands-left (encode_header g.header) (encode_locks g.locks) two_fields in
      let locks = stands-right (encode_header g.header) (encode_locks g.locks) two_fields in
      let first = first_thread g.threads f.some threads in
      need-yes (leb (length s) longest_sheet) _ _ _ (le→leb (length s) longest_sheet le)
      ∙ then-got _ (header-reads g.header f.header header)
      ∙ then-got _ (locks-read g.locks f.locks_few locks)
      ∙ then-got _ (variables-read g.vars f.vars f.vars_few row first.0 first.1)
      ∙ then-got _ (threads-read (length g.vars) g.locks g.threads f.threads f.few threads)

pub written_reads : (g : Program) → ProgramFits g → read_sheet (encode g) ≡ got (placed g) (length (encode g))
written_reads g f = standing-reads g f f.short (stands-whole (encode g))

pub inverse : Inverse
inverse = record { reads_written = reads_written; written_reads = written_reads; written_bytes = written_bytes }
