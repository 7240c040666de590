-- What the search leaves of `record::starting::start_threads`.
use Rattle.std.proofs.Common.{sym, refl, ◌∙◌, arith, length-set}
use Rattle.std.proofs.lemmas.Result.{err_from_is_err_and}
use Rattle.record.specs.Sheet.{program_of}
use Rattle.record.proofs.starting.Laws.{regs-few, regs-are, regs-short, threads_start, threads_end, thread-refused, thread-more}
use Rattle.record.proofs.starting.start_threads.Goals as goal

pub loop-t-init : goal.loop-t-init
loop-t-init c =
    record { four = refl; left = threads_start (program_of c.args.sheet.now) c.args.r.now _ c.args.from }

pub shared_ref_as_front-ranges : goal.shared_ref_as_front-ranges
shared_ref_as_front-ranges c =
    let r = c.requires.0.planned in
    regs-few c.args.sheet.now c.requires.0 c.args.first.now c.requires.1 c.loop-t.t (omega arith) c.from-n.result c.from-n.ensures

pub start_values-requires : goal.start_values-requires
start_values-requires c =
    let r = c.requires.0.planned in
    regs-short c.args.sheet.now c.requires.0 c.args.first.now c.requires.1 c.loop-t.t (omega arith) c.from-n.result c.from-n.ensures

pub returns-in_err-regs : goal.returns-in_err-regs
returns-in_err-regs c =
    let r = c.requires.0.planned in
    let p = err_from_is_err_and c.from_residual.result c.from_residual.ensures.1 in
    rw (p.1, p.2) (thread-refused (program_of c.args.sheet.now) c.args.r.now c.loop-t.t c.loop-t.threads c.loop-t.at (omega arith) _
    (regs-are c.args.sheet.now c.requires.0 c.args.first.now c.requires.1 c.loop-t.t (omega arith) _ c.from-n.ensures) c.in_err-regs.ensures
    ∙ sym c.loop-t.invariant.left)

pub loop-t-preserved : goal.loop-t-preserved
loop-t-preserved c =
    let r = c.requires.0.planned in
    let f = r.facts.threads_few in
    record {
      four = simp length-set c.loop-t.invariant.four;
      left = c.loop-t.invariant.left
          ∙ thread-more (program_of c.args.sheet.now) c.args.r.now c.loop-t.t c.loop-t.threads c.loop-t.at (omega arith) _
          (regs-are c.args.sheet.now c.requires.0 c.args.first.now c.requires.1 c.loop-t.t (omega arith) _ c.from-n.ensures)
          c.in_ok-regs.regs c.in_ok-regs.behind (omega (arith, c.loop-t.invariant.four)) c.in_ok-regs.ensures;
    }

pub returns : goal.returns
returns c =
    let r = c.requires.0.planned in
    sym (c.loop-t.invariant.left ∙ threads_end (program_of c.args.sheet.now) c.args.r.now c.loop-t.t c.loop-t.threads c.loop-t.at (omega arith))
