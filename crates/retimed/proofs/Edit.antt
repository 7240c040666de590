-- One statement of a program exchanged for another: the bytes before it and behind it stay, and so do the places where the other is as
-- long.
use mathlib.Core.Path.{◌≡◌, refl, sym, ap, ◌∙◌}
use mathlib.Core.List.{List, [], ◌∷◌, ◌++◌, append_assoc}
use Prim.Native.Nat.{ℕ, zero, suc, ◌+◌, ◌<◌}
use native.Mathlib.Omega.{arith}
use lib.ListN.{length, length-append, get_or, set, take, drop}
use lib.Seq.{set-get_or}
use Rattle.rules.specs.Program.{Statement, Thread, Program, no_statement, no_thread}
use Rattle.rules.specs.Format.{Bytes}
use Rattle.rules.specs.Encoding.{in_row, encode_statement, encode_opening, encode_thread, encode_front, encode, placed_statement, placed_row, placed_thread, placed}
use Rattle.reader.specs.Facts.{thread_in, statement_in}
use Rattle.retimed.specs.Retime.{with_statement, edited}

-- ---- one of a row

module _ {A : Type 0} (write : A → Bytes) where
  pub row-set : (xs : List A) (k : ℕ) (y : A) → k < length xs → in_row write (set xs k y) ≡ in_row write (take k xs) ++ (write y ++ in_row write (drop (suc k) xs))
  unfolding in_row
  row-set [] k y h = absurd (omega arith)
  row-set (x ∷ xs) zero y h = refl
  row-set (x ∷ xs) (suc k) y h = ap (λ (l : Bytes). write x ++ l) (row-set xs k y (omega arith)) ∙ sym (append_assoc (write x) (in_row write (take k xs)) (write y ++ in_row write (drop (suc k) xs)))

  pub placed-get : (put : ℕ → A → A) (p : ℕ) (xs : List A) (k : ℕ) (d : A) → k < length xs
      → get_or (placed_row put write p xs) k d ≡ put (p + length (in_row write (take k xs))) (get_or xs k d)
  unfolding in_row placed_row
  placed-get put p [] k d h = absurd (omega arith)
  placed-get put p (x ∷ xs) zero d h = let e : p ≡ p + 0 = omega arith in ap (λ (j : ℕ). put j x) e
  placed-get put p (x ∷ xs) (suc k) d h =
      let n = length-append (write x) (in_row write (take k xs)) in
      let e : p + length (write x) + length (in_row write (take k xs)) ≡ p + length (write x ++ in_row write (take k xs)) = omega arith in
      placed-get put (p + length (write x)) xs k d (omega arith) ∙ ap (λ (j : ℕ). put j (get_or xs k d)) e

  pub placed-set : (put : ℕ → A → A) (p : ℕ) (xs : List A) (k : ℕ) (y d : A) → k < length xs → length (write y) ≡ length (write (get_or xs k d))
      → placed_row put write p (set xs k y) ≡ set (placed_row put write p xs) k (put (p + length (in_row write (take k xs))) y)
  unfolding in_row placed_row
  placed-set put p [] k y d h e = absurd (omega arith)
  placed-set put p (x ∷ xs) zero y d h e =
      let z : p ≡ p + 0 = omega arith in (λ i. put (z i) y ∷ placed_row put write (p + e i) xs)
  placed-set put p (x ∷ xs) (suc k) y d h e =
      let n = length-append (write x) (in_row write (take k xs)) in
      let z : p + length (write x) + length (in_row write (take k xs)) ≡ p + length (write x ++ in_row write (take k xs)) = omega arith in
      let row = placed_row put write (p + length (write x)) xs in
      ap (λ (l : List A). put p x ∷ l) (placed-set put (p + length (write x)) xs k y d (omega arith) e ∙ ap (λ (j : ℕ). set row k (put j y)) z)

  pub row-length : (xs : List A) (k : ℕ) (y d : A) → k < length xs → length (write y) ≡ length (write (get_or xs k d)) → length (in_row write (set xs k y)) ≡ length (in_row write xs)
  unfolding in_row
  row-length [] k y d h e = absurd (omega arith)
  row-length (x ∷ xs) zero y d h e =
      let a = length-append (write y) (in_row write xs) in let b = length-append (write x) (in_row write xs) in omega arith
  row-length (x ∷ xs) (suc k) y d h e =
      let a = length-append (write x) (in_row write (set xs k y)) in let b = length-append (write x) (in_row write xs) in
      let c = row-length xs k y d (omega arith) e in omega arith

-- ---- one statement of a program

regroup : (f a o c y d b : Bytes) → f ++ (a ++ ((o ++ (c ++ (y ++ d))) ++ b)) ≡ ((f ++ a) ++ (o ++ c)) ++ (y ++ (d ++ b))
regroup f a o c y d b = simp append_assoc

module _ (g : Program) (t k : ℕ) where
  -- what stands before statement k of thread t, and behind it
  abbrev pub before : Bytes
  before = (encode_front g ++ in_row encode_thread (take t g.threads)) ++ (encode_opening (thread_in g t).regs ++ in_row encode_statement (take k (thread_in g t).statements))

  abbrev pub behind : Bytes
  behind = in_row encode_statement (drop (suc k) (thread_in g t).statements) ++ in_row encode_thread (drop (suc t) g.threads)

  module _ (h : t < length g.threads) (i : k < length (thread_in g t).statements) where
    pub edited-bytes : (y : Statement) → encode (edited g t k y) ≡ before ++ (encode_statement y ++ behind)
    unfolding encode encode_front encode_thread edited with_statement
    edited-bytes y =
        let th = thread_in g t in
        ap (λ (l : Bytes). encode_front g ++ l) (row-set encode_thread g.threads t (with_statement k y th) h)
        ∙ ap (λ (l : Bytes). encode_front g ++ (in_row encode_thread (take t g.threads) ++ ((encode_opening th.regs ++ l) ++ in_row encode_thread (drop (suc t) g.threads)))) (row-set encode_statement th.statements k y i)
        ∙ regroup (encode_front g) (in_row encode_thread (take t g.threads)) (encode_opening th.regs) (in_row encode_statement (take k th.statements)) (encode_statement y)
        (in_row encode_statement (drop (suc k) th.statements)) (in_row encode_thread (drop (suc t) g.threads))

    -- the statement that is there changes nothing
    pub edited-same : edited g t k (statement_in g t k) ≡ g
    unfolding edited with_statement
    edited-same = λ j. record {
      header = g.header;
      locks = g.locks;
      vars = g.vars;
      threads = (ap (λ (l : List Statement). set g.threads t (record { place = (thread_in g t).place; regs = (thread_in g t).regs; statements = l })) (set-get_or (thread_in g t).statements k no_statement)
          ∙ set-get_or g.threads t no_thread) j;
    }

    -- ---- places: they are those of the fields, and stay where the other statement is as long
    module _ (e : placed g ≡ g) where
      row_here : placed_row placed_thread encode_thread (length (encode_front g)) g.threads ≡ g.threads
      unfolding placed
      row_here = ap (λ (x : Program). x.threads) e

      thread-here : placed_thread (length (encode_front g) + length (in_row encode_thread (take t g.threads))) (thread_in g t) ≡ thread_in g t
      thread-here = sym (placed-get encode_thread placed_thread (length (encode_front g)) g.threads t no_thread h) ∙ ap (λ (l : List Thread). get_or l t no_thread) row_here

      -- where the statements of the thread begin
      first : ℕ
      first = length (encode_front g) + length (in_row encode_thread (take t g.threads)) + length (encode_opening (thread_in g t).regs)

      statements-here : placed_row placed_statement encode_statement first (thread_in g t).statements ≡ (thread_in g t).statements
      unfolding placed_thread first
      statements-here = ap (λ (x : Thread). x.statements) thread-here

      there : first + length (in_row encode_statement (take k (thread_in g t).statements)) ≡ (statement_in g t k).place
      unfolding placed_statement
      there = ap (λ (x : Statement). x.place) (sym (placed-get encode_statement placed_statement first (thread_in g t).statements k no_statement i)
          ∙ ap (λ (l : List Statement). get_or l k no_statement) statements-here)

      pub place_is : (statement_in g t k).place ≡ length before
      unfolding first
      place_is =
          let a = length-append (encode_front g ++ in_row encode_thread (take t g.threads)) (encode_opening (thread_in g t).regs ++ in_row encode_statement (take k (thread_in g t).statements)) in
          let b = length-append (encode_front g) (in_row encode_thread (take t g.threads)) in
          let c = length-append (encode_opening (thread_in g t).regs) (in_row encode_statement (take k (thread_in g t).statements)) in
          let d = there in
          omega arith

      module _ (y : Statement) (same_place : y.place ≡ (statement_in g t k).place) (as_long : length (encode_statement y) ≡ length (encode_statement (statement_in g t k))) where
        thread-length : length (encode_thread (with_statement k y (thread_in g t))) ≡ length (encode_thread (thread_in g t))
        unfolding encode_thread with_statement
        thread-length =
            let xs = (thread_in g t).statements in
            let a = length-append (encode_opening (thread_in g t).regs) (in_row encode_statement (set xs k y)) in
            let b = length-append (encode_opening (thread_in g t).regs) (in_row encode_statement xs) in
            let c = row-length encode_statement xs k y no_statement i as_long in omega arith

        pub edited-length : length (encode (edited g t k y)) ≡ length (encode g)
        unfolding encode encode_front edited
        edited-length =
            let ts = set g.threads t (with_statement k y (thread_in g t)) in
            let a = length-append (encode_front g) (in_row encode_thread ts) in
            let b = length-append (encode_front g) (in_row encode_thread g.threads) in
            let c = row-length encode_thread g.threads t (with_statement k y (thread_in g t)) no_thread h thread-length in omega arith

        statement-placed : placed_statement (first + length (in_row encode_statement (take k (thread_in g t).statements))) y ≡ y
        unfolding placed_statement
        statement-placed = λ j. record { place = (there ∙ sym same_place) j; least = y.least; greatest = y.greatest; action = y.action }

        statements-there : placed_row placed_statement encode_statement first (set (thread_in g t).statements k y) ≡ set (thread_in g t).statements k y
        statements-there =
            placed-set encode_statement placed_statement first (thread_in g t).statements k y no_statement i as_long
            ∙ (λ j. set (statements-here j) k (statement-placed j))

        thread-placed : placed_thread (length (encode_front g) + length (in_row encode_thread (take t g.threads))) (with_statement k y (thread_in g t)) ≡ with_statement k y (thread_in g t)
        unfolding placed_thread with_statement first
        thread-placed = λ j. record { place = ap (λ (x : Thread). x.place) thread-here j; regs = (thread_in g t).regs; statements = statements-there j }

        pub edited-placed : placed (edited g t k y) ≡ edited g t k y
        unfolding placed edited encode_front
        edited-placed = λ j. record {
          header = g.header;
          locks = g.locks;
          vars = g.vars;
          threads = (placed-set encode_thread placed_thread (length (encode_front g)) g.threads t (with_statement k y (thread_in g t)) no_thread h thread-length
              ∙ (λ l. set (row_here l) t (thread-placed l))) j;
        }
