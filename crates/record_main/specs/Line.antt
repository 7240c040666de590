-- What the program prints of a sheet and a record.
use Rattle.std.specs.Prelude.{◌≡◌, ◌++◌, ℕ, ◌+◌, take}
use Rattle.rules.specs.Constants.{longest_sheet}
use Rattle.rules.specs.Format.{Bytes}
use Rattle.rules.specs.Product.{bytes, decimal}
use Rattle.recorded.specs.Follow.{longest_record, Answer, follow, file_number, bit}

-- "number file place finished tick", with a newline at the end
unfoldable pub line : Answer → Bytes
line a =
    decimal a.refusal
    ++ (bytes " " ++ (decimal (file_number a.file)
    ++ (bytes " " ++ (decimal a.place
    ++ (bytes " " ++ (decimal (bit a.finished)
    ++ (bytes " " ++ (decimal a.tick
    ++ bytes "\n"))))))))

-- the longest line: ten digits for each number of 32 bits, twenty for the place, one for the file and for whether the run is
-- finished, and one byte behind each of the five
abbrev pub longest_line : ℕ
longest_line = 47

unfoldable pub printed : Bytes → Bytes → Bytes
printed sheet recorded = line (follow sheet recorded)

-- the claim: it is enough to read one byte more than a sheet and a record may have
abbrev pub EnoughRead : Type 0
EnoughRead = (sheet recorded : Bytes) → printed (take (longest_sheet + 1) sheet) (take (longest_record + 1) recorded) ≡ printed sheet recorded
