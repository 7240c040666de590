-- What the index of a sheet that reads tells: where its threads and statements stand, and that they stand inside the sheet.
use mathlib.Core.Path.{◌≡◌, sym, ap, subst}
use mathlib.Core.List.{List, ◌++◌}
use Prim.Native.Nat.{ℕ, ◌+◌, ◌*◌, ◌≤◌, ◌<◌}
use native.Mathlib.Omega.{arith}
use lib.ListN.{length, get_or}
use Rattle.rules.specs.Constants.{most_threads, most_statements}
use Rattle.rules.specs.Interval.{Interval}
use Rattle.rules.specs.Program.{Program, no_thread}
use Rattle.rules.specs.Format.{Bytes, got, read_sheet}
use Rattle.rules.specs.Encoding.{in_row}
use Rattle.rules.specs.Product.{bytes}
use Rattle.rules.proofs.Base.{each-get}
use Rattle.field.specs.Decoded.{body_end}
use Rattle.reader.specs.declared.Index.{Index}
use Rattle.reader.specs.declared.threads.ThreadEntry.{ThreadEntry}
use Rattle.reader.specs.Index.{no_entry, entry_of}
use Rattle.reader.specs.Facts.{program_in, thread_in, statement_in, names_in, ranges, StatementFacts, ProgramFacts, IndexFacts}
use Rattle.reader.proofs.Facts.{accepted, program-facts, program-is, index-facts, thread-in, statement-in}
use Rattle.reader.proofs.Room.{RegsInside, RangesInside, ranges-inside}
use Rattle.print.specs.Texts.{range_text, statement_text, thread_text, Indexes}

module _ (s : Bytes) (i : Index) (w : Indexes s i) where
  -- what holds of a program that the sheet reads as holds of `program_in s`
  told : (P : Program → Type 0) → ((g : Program) (e : ℕ) → read_sheet s ≡ got g e → P g) → P (program_in s)
  told P h = let a = accepted (read_sheet s) w in subst P (sym (program-is s a.0 a.1 a.2)) (h a.0 a.1 a.2)

  pub facts : ProgramFacts s (program_in s)
  facts = told (ProgramFacts s) (program-facts s)

  pub index_is : IndexFacts s (program_in s) i
  index_is = told (λ g. IndexFacts s g i) (λ g e q. index-facts g e w q)

  inside : RangesInside s (program_in s)
  inside = told (RangesInside s) (ranges-inside s)

  pub variables-room : 23 + 11 * i.variables ≤ length s
  variables-room = omega (arith, index_is.variables, inside.vars)

  pub threads_few : i.threads ≤ most_threads
  threads_few = omega (arith, index_is.threads, facts.threads_few)

  module _ (t : ℕ) (r : t < i.threads) where
    there : t < length (program_in s).threads
    there = omega (arith, index_is.threads)

    entry-is : get_or i.entries t no_entry ≡ entry_of (thread_in (program_in s) t)
    entry-is = index_is.entries t there

    -- ---- registers

    pub registers-room : (get_or i.entries t no_entry).place + 4 + 11 * (get_or i.entries t no_entry).registers ≤ length s
    registers-room = subst (λ (x : ThreadEntry). x.place + 4 + 11 * x.registers ≤ length s) (sym entry-is) (each-get (RegsInside s) (program_in s).threads t no_thread inside.regs there)

    registers-are : ranges s ((get_or i.entries t no_entry).place + 4) (get_or i.entries t no_entry).registers ≡ (thread_in (program_in s) t).regs
    registers-are = subst (λ (x : ThreadEntry). ranges s (x.place + 4) x.registers ≡ (thread_in (program_in s) t).regs) (sym entry-is) (sym (thread-in facts t there).regs)

    pub thread-whole : bytes "thread\n" ++ (in_row (range_text (bytes "reg ")) (ranges s ((get_or i.entries t no_entry).place + 4) (get_or i.entries t no_entry).registers)
        ++ in_row statement_text (thread_in (program_in s) t).statements) ≡ thread_text (thread_in (program_in s) t)
    unfolding thread_text
    thread-whole = ap (λ (rs : List Interval). bytes "thread\n" ++ (in_row (range_text (bytes "reg ")) rs ++ in_row statement_text (thread_in (program_in s) t).statements)) registers-are

    -- ---- statements

    pub count_is : (get_or i.entries t no_entry).statements ≡ length (thread_in (program_in s) t).statements
    count_is = ap (λ (x : ThreadEntry). x.statements) entry-is

    module _ (k : ℕ) (h : k < (get_or i.entries t no_entry).statements) where
      counted : k < length (thread_in (program_in s) t).statements
      counted = omega (arith, count_is)

      pub index-small : t * most_statements + k < most_threads * most_statements
      index-small = omega (arith, counted, (thread-in facts t there).few, threads_few)

      pub stands : StatementFacts (names_in (length (program_in s).vars) (program_in s).locks (thread_in (program_in s) t)) s (statement_in (program_in s) t k)
      stands = statement-in facts t there k counted

      pub place_is : get_or i.places (t * most_statements + k) 0 ≡ (statement_in (program_in s) t k).place
      place_is = index_is.places t k there counted

      pub place_inside : (get_or i.places (t * most_statements + k) 0 + 8 ≤ length s) × (body_end s (get_or i.places (t * most_statements + k) 0) ≤ length s)
      place_inside = subst (λ (p : ℕ). (p + 8 ≤ length s) × (body_end s p ≤ length s)) (sym place_is) (stands.head, stands.body)
