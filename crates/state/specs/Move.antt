-- What a move makes of a state.
use Rattle.std.specs.Prelude.{◌<◌, List}
use Rattle.rules.specs.Constants.{half32, most_threads}
use Rattle.interval.specs.declared.Span.{Span}
use Rattle.state.specs.declared.State.{State}
use Rattle.state.specs.declared.moves.Move.{Move}
use Rattle.state.specs.Access.{with_thread}

-- a move of one of the code's four threads, whose ticks a cell holds
pub record MoveFits (m : Move) : Type 0 where
  pub thread : m.thread < most_threads
  pub low : m.clock.low.0 < half32
  pub high : m.clock.high.0 < half32

-- the state in which the thread stands where it moves, with these registers
abbrev pub moved_to : State → Move → List Span → State
moved_to s m regs = with_thread s m.thread (record { at = m.at; clock = m.clock; regs = regs })
