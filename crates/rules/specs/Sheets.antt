-- The parts of a worked sheet as bytes, from numbers of any size: so sheets that do not read can be written too.
use Rattle.std.specs.Prelude.{[], ◌∷◌, ◌++◌, ℕ}
use Rattle.rules.specs.Format.{Bytes}
use Rattle.rules.specs.Encoding.{two, four, field}

-- limit, budget, label low and high
abbrev pub header : ℕ → ℕ → ℕ → ℕ → Bytes
header l b low high = field 1 (four l ++ four b ++ four low ++ four high)

abbrev pub locks : ℕ → Bytes
locks n = field 3 (n ∷ [])

abbrev pub variable : ℕ → ℕ → Bytes
variable a b = field 2 (four a ++ four b)

abbrev pub thread : ℕ → Bytes
thread n = field 4 (n ∷ [])

abbrev pub register : ℕ → ℕ → Bytes
register a b = field 5 (four a ++ four b)

-- least and greatest time, then code and operands
abbrev pub statement : ℕ → ℕ → Bytes → Bytes
statement a b x = field 6 (two a ++ two b ++ x)

abbrev pub halt : Bytes
halt = statement 0 0 (0 ∷ [])

abbrev pub skip : ℕ → ℕ → Bytes
skip a b = statement a b (1 ∷ [])

abbrev pub assign : ℕ → ℕ → ℕ → Bytes → Bytes
assign a b r x = statement a b (2 ∷ r ∷ x)

abbrev pub branch : ℕ → ℕ → ℕ → Bytes → Bytes
branch a b to c = statement a b (3 ∷ to ∷ c)

abbrev pub store : ℕ → ℕ → ℕ → ℕ → Bytes
store a b r v = statement a b (4 ∷ r ∷ v ∷ [])

abbrev pub load : ℕ → ℕ → ℕ → ℕ → Bytes
load a b r v = statement a b (5 ∷ r ∷ v ∷ [])

abbrev pub unlock : ℕ → ℕ → ℕ → Bytes
unlock a b l = statement a b (6 ∷ l ∷ [])

abbrev pub lock : ℕ → ℕ → ℕ → Bytes
lock a b l = statement a b (7 ∷ l ∷ [])

-- expressions, operator first
abbrev pub constant : ℕ → Bytes
constant n = 16 ∷ four n

abbrev pub reg : ℕ → Bytes
reg r = 17 ∷ r ∷ []

abbrev pub plus : Bytes → Bytes → Bytes
plus a b = 18 ∷ a ++ b

abbrev pub times : Bytes → Bytes → Bytes
times a b = 20 ∷ a ++ b

abbrev pub divide : Bytes → Bytes → Bytes
divide a b = 21 ∷ a ++ b

abbrev pub always : Bytes
always = 32 ∷ []

abbrev pub not : Bytes → Bytes
not c = 34 ∷ c

abbrev pub equal : Bytes → Bytes → Bytes
equal a b = 36 ∷ a ++ b

abbrev pub less : Bytes → Bytes → Bytes
less a b = 37 ∷ a ++ b
