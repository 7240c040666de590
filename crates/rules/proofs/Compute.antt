-- To name `every-rule` on an `unfolding` line is to unfold every rule, so that an example is computed.
use Rattle.rules.specs.Base as B
use Rattle.rules.specs.Refusal as R
use Rattle.rules.specs.Interval as I
use Rattle.rules.specs.Program as P
use Rattle.rules.specs.Format as F
use Rattle.rules.specs.Encoding as N
use Rattle.rules.specs.Lock as L
use Rattle.rules.specs.Run as T
use Rattle.rules.specs.Expression as E
use Rattle.rules.specs.Search as S
use Rattle.rules.specs.Product as O

unfoldable pub every-rule : Unit {0}
unfolding B.all B.all_below R.on_value R.on_both I.min_z I.max_z I.eq_z I.in_range I.floor_div I.quotient I.operate I.divides_by_zero I.calculate I.hull I.holds_zero I.may_divide_by_zero I.fits I.within I.combine I.meet I.join P.is_halt F.and_then F.need F.map_got F.num32 F.twos_complement F.int32 F.has_head F.has_body F.due F.sized F.header_fits F.read_header F.read_locks F.on_here F.read_many F.read_range F.variable_here F.read_variables F.read_registers F.arith_kind F.arith_at F.read_constant F.read_register F.on_arith F.read_arith F.condition_kind F.condition_at F.on_condition F.read_condition F.exactly F.length_fits F.times_fit F.read_action F.read_contents F.read_statement F.statement_here F.read_statements F.last_halts F.target_fits F.targets_fit F.close F.read_thread F.thread_here F.read_threads F.read_sheet N.in_row N.encode_arith N.encode_condition N.code_of N.encode_operands N.encode_statement N.encode_opening N.encode_thread N.encode_front N.encode N.placed_statement N.placed_row N.placed_thread N.placed L.may_take L.after_lock L.after_unlock T.value_of T.truth_of T.standing T.act T.thread_of T.statement_of T.live T.is_event T.outcome T.step T.continue T.play T.finished T.greatest_clock E.evaluate E.all_parts E.at_most E.at_least E.keep E.on_register E.equal_yes E.equal_no E.less_yes E.less_no E.join_regs E.join_both E.then_narrow E.compared E.narrow_yes S.moved S.from_value S.unless_empty S.branches S.effect S.statement_at S.live_from S.greatest_low S.greatest_high S.turn_bound S.waits S.before S.events S.turn_of S.turn S.widen S.after_turn S.search_step S.resume S.search_by S.search S.resume_taking S.takes S.start S.from_by S.search_from S.states_taken S.judge S.answer_by S.answer_with S.answer O.decimal_in O.decimal O.line O.printed
every-rule = tt
