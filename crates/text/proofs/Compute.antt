-- To name `every-text` on an `unfolding` line is to unfold what a text means and what it makes, so that an example is computed.
use Rattle.text.specs.Words as W
use Rattle.text.specs.Notation as N
use Rattle.text.specs.Lines as L
use Rattle.text.specs.Convert as C

unfoldable pub every-text : Unit {0}
unfolding W.then_read W.map_read W.is_digit W.is_letter W.spaces W.apart W.numeral W.digits W.number W.negative W.signed_here W.signed W.following W.whole W.or_none W.or_whole W.spell W.keyword W.symbol W.name W.newline W.line_end N.linked N.link N.on_link N.products N.sums N.comparisons N.conjunctions N.chain N.from_left N.product N.sum N.operand N.closed N.too_deep N.factor N.on_thing N.is_condition N.truths N.first N.comparison N.onward N.start N.negated N.atom N.atomic N.thing N.either N.read_sum N.read_test L.range L.word_only L.assignment L.jump L.transfer L.actions L.action_here L.timed L.due_after L.openings L.takes_times L.line_here L.read_line L.may_end L.read_lines L.head_line L.ends L.read_text C.fits_byte C.fits_two C.fits_four C.fits_signed C.range_fits C.arith_fits C.condition_fits C.action_fits C.line_fits C.header_numbers_fit C.registers_ahead C.field_of C.pieces C.one_to C.header_fault C.text_pieces C.written C.piece_at C.said C.written_into C.judged C.made C.converted C.convert
every-text = tt
