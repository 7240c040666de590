-- The whole sheet: its parts, one after the other, are what the rules read.
use mathlib.Core.Path.{◌≡◌, refl, ◌∙◌}
use mathlib.Core.List.{List}
use Prim.Native.Nat.{ℕ, ◌≤◌}
use lib.ListN.{length}
use borrow.Author.Tests.{le-leb}
use Rattle.std.specs.Prelude.{Result, Ok, Err}
use Rattle.rules.specs.Interval.{Interval}
use Rattle.rules.specs.Program as P
use Rattle.rules.specs.Program.{Thread}
use Rattle.rules.specs.Format.{Bytes, Got, bad, got, and_then, need, read_header, read_locks, read_variables, read_threads}
use Rattle.refusal.specs.declared.Fault.{Fault}
use Rattle.field.specs.Header.{header_of, header_at}
use Rattle.reader.specs.declared.Index.{Index}
use Rattle.reader.specs.Index.{read_up_to, index_with, index_of}
use Rattle.reader.specs.Walk.{part_of, header_part, locks_part, variables_part, onward, walked_index}

module _ (s : Bytes) where
  from-threads : (h : P.Header) (k : ℕ) (vs : List Interval) (g : Got (List Thread))
      → index_with (header_of h) k (length vs) g ≡ index_of (and_then g (λ ts e. got (record { header = h; locks = k; vars = vs; threads = ts }) e))
  unfolding index_of and_then
  from-threads h k vs (bad r p) = refl
  from-threads h k vs (got ts e) = refl

  from-variables : (h : P.Header) (k : ℕ) (g : Got (List Interval))
      → onward (part_of (λ (vs : List Interval). length vs) g) (λ n r. index_with (header_of h) k n (read_threads n k s r))
      ≡ index_of (and_then g (λ vs r. and_then (read_threads (length vs) k s r) (λ ts e. got (record { header = h; locks = k; vars = vs; threads = ts }) e)))
  unfolding index_of and_then
  from-variables h k (bad r p) = refl
  from-variables h k (got vs r) = from-threads h k vs (read_threads (length vs) k s r)

  from-locks : (h : P.Header) (g : Got ℕ)
      → onward (part_of (λ k. k) g) (λ k q. onward (variables_part s q) (λ n r. index_with (header_of h) k n (read_threads n k s r)))
      ≡ index_of (and_then g (λ k q. and_then (read_variables s q) (λ vs r. and_then (read_threads (length vs) k s r) (λ ts e. got (record { header = h; locks = k; vars = vs; threads = ts }) e))))
  unfolding index_of and_then
  from-locks h (bad r p) = refl
  from-locks h (got k q) = from-variables h k (read_variables s q)

  from-header : (g : Got P.Header)
      → onward (part_of header_of g) (λ h p. onward (locks_part s p) (λ k q. onward (variables_part s q) (λ n r. index_with h k n (read_threads n k s r))))
      ≡ index_of (and_then g (λ h p. and_then (read_locks s p) (λ k q. and_then (read_variables s q) (λ vs r. and_then (read_threads (length vs) k s r) (λ ts e. got (record { header = h; locks = k; vars = vs; threads = ts }) e)))))
  unfolding index_of and_then
  from-header (bad r p) = refl
  from-header (got h p) = from-locks h (read_locks s p)

  pub sheet-walked : {x : Result Index Fault} (most : ℕ) → length s ≤ most → x ≡ walked_index s → x ≡ index_of (read_up_to most s)
  unfolding read_up_to read_header need walked_index header_at
  sheet-walked most h e = rw (le-leb (length s) most h) (e ∙ from-header (header_at s 0))
