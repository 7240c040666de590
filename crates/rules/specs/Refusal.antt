-- What the tool says no to (01, the table of that section; from 16 on: 02): a name for each row, and its number.
-- A refusal travels as data: a result is a value, or the refusal that stands in its way.
use Rattle.std.specs.Prelude.{ℕ}

pub data Refusal : Type 0 where
  -- the sheet ends where a field is due, inside a header, or before a body's end
  short : Refusal
  -- the tag is not due
  out_of_turn : Refusal
  -- the length does not fit the tag or code
  bad_length : Refusal
  -- a number or code outside its range, or low above high
  off_range : Refusal
  -- register, variable, lock or target absent
  no_such_name : Refusal
  -- unknown code or wrong kind, nesting above twelve, bytes missing or left over
  bad_expression : Refusal
  -- the last statement of a thread is not halt
  no_halt : Refusal
  -- ninth variable, fifth thread, 65th statement
  too_many : Refusal
  -- more than 16,384 bytes
  too_long : Refusal
  -- a divisor's interval holds 0 (02, ticket 1: "a divisor that may be 0 stays 10")
  no_reading : Refusal
  -- some thread has not halted and every such thread stands at a lock another owns
  stuck : Refusal
  -- the turn's bound is above the time limit
  past_limit : Refusal
  -- a state is held and the steps equal the budget
  out_of_steps : Refusal
  -- more states to hold than slots
  out_of_room : Refusal
  -- the window found is not inside the label
  label_broken : Refusal
  -- a result's interval leaves the 32-bit values (02, ticket 1: "becomes its own number")
  off_scale : Refusal
  -- a change of times cannot be taken back (02, ticket 8: "18 changed since")
  changed_since : Refusal
  -- a lent output is too short (02, ticket 7: "19 for a short copy buffer")
  output_full : Refusal
  -- a text cannot be read (02, ticket 2: "20 unreadable text or a line out of turn or missing")
  unreadable : Refusal
  -- a record is not a run of the sheet (02, ticket 9: "21 not a run")
  not_run : Refusal

abbrev pub number : Refusal → ℕ
number short = 1
number out_of_turn = 2
number bad_length = 3
number off_range = 4
number no_such_name = 5
number bad_expression = 6
number no_halt = 7
number too_many = 8
number too_long = 9
number no_reading = 10
number stuck = 11
number past_limit = 12
number out_of_steps = 13
number out_of_room = 14
number label_broken = 15
number off_scale = 16
number changed_since = 18
number output_full = 19
number unreadable = 20
number not_run = 21

pub data Result (A : Type 0) : Type 0 where
  value : A → Result A
  fault : Refusal → Result A

-- go on with a value; a fault is passed up
unfoldable pub on_value : {A B : Type 0} → (A → Result B) → Result A → Result B
on_value f (fault r) = fault r
on_value f (value a) = f a

-- two results from left to right: the first fault is passed up
unfoldable pub on_both : {A B C : Type 0} → (A → B → Result C) → Result A → Result B → Result C
on_both f (fault r) y = fault r
on_both f (value a) (fault r) = fault r
on_both f (value a) (value b) = f a b
