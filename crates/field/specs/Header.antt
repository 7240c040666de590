-- The header, which the rules read at the sheet's start and the code at any place.
use Rattle.std.specs.Prelude.{ℕ, ◌+◌}
use Rattle.rules.specs.Program as rules
use Rattle.rules.specs.Format.{Bytes, num32, Got, due, sized, header_fits}
use Rattle.field.specs.Ticks.{tick}
use Rattle.field.specs.declared.fields.Header.{Header}

-- the rules' header as the code has it
abbrev pub header_of : rules.Header → Header
header_of h = record { limit = tick h.limit; budget = h.budget; label_low = tick h.label_low; label_high = tick h.label_high }

-- the numbers in the body of the field at a place
abbrev pub header_in : Bytes → ℕ → rules.Header
header_in s at = record { limit = num32 s (at + 3); budget = num32 s (at + 7); label_low = num32 s (at + 11); label_high = num32 s (at + 15) }

unfoldable pub header_at : Bytes → ℕ → Got rules.Header
header_at s at = due 1 s at (sized s at 16 (header_fits (num32 s (at + 3)) (num32 s (at + 7)) (num32 s (at + 11)) (num32 s (at + 15))) (header_in s at))
