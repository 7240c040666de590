-- A text in the front of an array of bytes.
use Rattle.std.specs.Prelude.{◌≡◌, ◌-◌, ◌≤◌, length, take, drop, replicate}
use Rattle.rules.specs.Format.{Bytes}
use Rattle.label_main.specs.declared.Line.{Line}

-- the text is the first bytes, as many as the length says; behind it stand zeros
pub record Holds (text : Bytes) (l : Line) : Type 0 where
  pub fits : l.length ≤ length l.bytes
  pub front : take l.length l.bytes ≡ text
  pub behind : drop l.length l.bytes ≡ replicate (length l.bytes - l.length) 0
