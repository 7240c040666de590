-- Sheets mended by hand from the sentences of 02, ticket 13. All stand in one table, which carries one claim about the definition.
use Rattle.std.specs.Prelude.{◌≡◌, List, [], ◌∷◌, ◌++◌, ℕ, zero, suc, ◌+◌, length, replicate}
use Rattle.rules.specs.Refusal.{Refusal, short, out_of_turn, bad_length, off_range, no_such_name, too_many, too_long, output_full}
use Rattle.rules.specs.Format.{Bytes}
use Rattle.rules.specs.Encoding.{field}
use Rattle.rules.specs.Sheets.{header, locks, variable, thread, register, halt, skip, statement, branch, always}
use Rattle.rules.specs.Worked.{B, B_with}
use Rattle.rules.specs.Edges.{minus_1}
use Rattle.mended.specs.Mend.{refused_with, filled, mend}

pub data Fact : Type 0 where
  -- a sheet becomes another, with these numbers listed
  becomes : Bytes → Bytes → List ℕ → Fact
  -- a sheet, with room for so many bytes and numbers, is refused at a place
  refused : Bytes → ℕ → ℕ → Refusal → ℕ → Fact

-- into a buffer with one byte more, and one with two numbers more
abbrev pub Holds : Fact → Type 0
Holds (becomes s out cs) =
    mend s (length out + 1) (length cs + 2)
    ≡ record { refusal = 0; place = 0; written = length out; listed = length cs; sheet = filled (length out + 1) out; list = filled (length cs + 2) cs }
Holds (refused s n k r p) = mend s n k ≡ refused_with n k r p

-- limit 10, budget 100, label 0..10, no locks: 23 bytes
abbrev pub front : Bytes
front = header 10 100 0 10 ++ locks 0

-- -2 and -6 in two's complement
abbrev pub minus_2 : ℕ
minus_2 = 4294967294

abbrev pub minus_6 : ℕ
minus_6 = 4294967290

unfoldable pub skips : ℕ → Bytes
skips zero = []
skips (suc n) = skip 1 1 ++ skips n

abbrev pub goto : ℕ → Bytes
goto to = branch 1 1 to always

unfoldable pub rows : List Fact
rows =
    -- B as it is; its label the wrong way round; its times, with its halt dropped; too little room for either output
    becomes B B []
    ∷ becomes (B_with 10 100 3 2) B (1 ∷ 0 ∷ [])
    ∷ becomes (header 10 100 2 3 ++ locks 0 ++ thread 0 ++ skip 3 2) B (1 ∷ 27 ∷ 2 ∷ 27 ∷ [])
    ∷ refused B 42 0 output_full 0
    ∷ refused (B_with 10 100 3 2) 43 1 output_full 0
    -- ranges compare signed: 5..-6 is exchanged, -6..5 is not; -1..-2 is
    ∷ becomes (front ++ variable 5 minus_6 ++ thread 0 ++ halt) (front ++ variable minus_6 5 ++ thread 0 ++ halt) (1 ∷ 23 ∷ [])
    ∷ becomes (front ++ variable minus_6 5 ++ thread 0 ++ halt) (front ++ variable minus_6 5 ++ thread 0 ++ halt) []
    ∷ becomes (front ++ thread 1 ++ register minus_1 minus_2 ++ halt) (front ++ thread 1 ++ register minus_2 minus_1 ++ halt) (1 ∷ 27 ∷ [])
    ∷ refused (front ++ thread 1 ++ register minus_1 minus_2 ++ halt) 60 1 output_full 0
    -- times compare unsigned
    ∷ becomes (front ++ thread 0 ++ skip 40000 1 ++ halt) (front ++ thread 0 ++ skip 1 40000 ++ halt) (1 ∷ 27 ∷ [])
    ∷ becomes (front ++ thread 0 ++ skip 1 40000 ++ halt) (front ++ thread 0 ++ skip 1 40000 ++ halt) []
    -- an exchange that does not heal: a label above the limit, a least time of 0, times on a halt
    ∷ refused (B_with 10 100 20 0) 60 4 off_range 0
    ∷ refused (front ++ thread 0 ++ skip 3 0 ++ halt) 60 4 off_range 27
    ∷ refused (front ++ thread 0 ++ statement 3 2 (0 ∷ [])) 60 4 off_range 27
    -- a halt that stands earlier does not close the thread; two threads without theirs
    ∷ becomes (front ++ thread 0 ++ halt ++ skip 1 1) (front ++ thread 0 ++ halt ++ skip 1 1 ++ halt) (2 ∷ 35 ∷ [])
    ∷ becomes (front ++ thread 0 ++ skip 1 1 ++ thread 0 ++ skip 2 1) (front ++ thread 0 ++ skip 1 1 ++ halt ++ thread 0 ++ skip 1 2 ++ halt)
    (2 ∷ 27 ∷ 1 ∷ 39 ∷ 2 ∷ 39 ∷ [])
    -- a halt past 64, at the last statement and before the targets; up to 64
    ∷ refused (front ++ thread 0 ++ skips 64) 0 0 too_many 531
    ∷ refused (front ++ thread 0 ++ goto 200 ++ skips 63) 0 0 too_many 533
    ∷ becomes (front ++ thread 0 ++ skips 63) (front ++ thread 0 ++ skips 63 ++ halt) (2 ∷ 523 ∷ [])
    -- a target may name the added halt, and nothing behind it; places are the original's
    ∷ becomes (front ++ thread 0 ++ goto 1) (front ++ thread 0 ++ goto 1 ++ halt) (2 ∷ 27 ∷ [])
    ∷ refused (front ++ thread 0 ++ goto 2) 60 4 no_such_name 27
    ∷ refused (front ++ thread 0 ++ skip 1 1 ++ thread 0 ++ goto 2) 60 4 no_such_name 39
    ∷ refused (front ++ thread 0 ++ skip 1 1 ++ thread 9) 60 4 off_range 35
    -- a thread that does not close gets no halt: two bytes of a header, or another tag, stand behind it
    ∷ refused (front ++ thread 0 ++ skip 1 1 ++ 4 ∷ 0 ∷ []) 60 4 short 35
    ∷ refused (front ++ thread 0 ++ skip 1 1 ++ locks 0) 60 4 out_of_turn 35
    -- one that closes at a header whose body is missing
    ∷ refused (front ++ thread 0 ++ skip 1 1 ++ 4 ∷ 0 ∷ 1 ∷ []) 60 4 short 35
    -- ends in a field of another length are not looked at; an unknown code; a field that is absent, at the sheet's length
    ∷ refused (front ++ field 2 (0 ∷ 0 ∷ 0 ∷ 5 ∷ 0 ∷ 0 ∷ 0 ∷ []) ++ thread 0 ++ halt) 60 4 bad_length 23
    ∷ refused (front ++ thread 0 ++ statement 2 1 (9 ∷ [])) 60 4 off_range 27
    ∷ refused [] 0 0 short 0
    ∷ refused front 0 0 short 23
    -- more than 16,384 bytes
    ∷ refused (replicate 16385 0) 2 2 too_long 0
    ∷ []
