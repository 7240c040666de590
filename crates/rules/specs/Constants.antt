-- The numbers that 01 fixes, each named once.
use Rattle.std.specs.Prelude.{ℕ, ◌^◌}

-- "more than 16,384 bytes" is too long
abbrev pub longest_sheet : ℕ
longest_sheet = 16384

-- "may nest twelve deep"
abbrev pub deepest : ℕ
deepest = 12

-- "then 0 to 8" variables; "number of registers, 0..8"; "number of locks, 0..8"
abbrev pub most_variables : ℕ
most_variables = 8

abbrev pub most_registers : ℕ
most_registers = 8

abbrev pub most_locks : ℕ
most_locks = 8

-- "1 to 4 threads"; "1 to 64 in each thread"
abbrev pub most_threads : ℕ
most_threads = 4

abbrev pub most_statements : ℕ
most_statements = 64

-- "Time limit 1..1,000,000; budget 1..10,000,000"
abbrev pub greatest_limit : ℕ
greatest_limit = 1000000

abbrev pub greatest_budget : ℕ
greatest_budget = 10000000

-- "greatest at most 65,535"
abbrev pub greatest_time : ℕ
greatest_time = 65535

-- "It fills 100 numbers of the buffer"
abbrev pub numbers_per_state : ℕ
numbers_per_state = 100

-- "A small program [..] lends 12,000 numbers"
abbrev pub lent_by_program : ℕ
lent_by_program = 12000

-- the 32-bit values are those from -half32 up to half32 less 1
abbrev pub half32 : ℕ
half32 = 2 ^ 31
