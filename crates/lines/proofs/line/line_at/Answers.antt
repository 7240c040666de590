-- What the search leaves of `lines::line::line_at`.
use Rattle.lines.proofs.DispatchLaws.{line-over, line-there, spaces-twice, lines-as}
use Rattle.lines.specs.Writing.{Lines, due_of}
use Rattle.lines.proofs.line.line_at.Goals as goal

pub returns-then-s-q-clause-lines : goal.returns-then-s-q-clause-lines
unfolding Lines
returns-then-s-q-clause-lines c =
    line-over (due_of c.args.due) c.args.s.now c.args.p c.spaces_end-q.result c.spaces_end-q.ensures.reads c.if-s-q.true

pub opened_at-requires : goal.opened_at-requires
opened_at-requires c =
    (c.if-s-q.false, (let e = c.spaces_end-q.ensures.reads in rw e (spaces-twice _)), c.requires.1, c.requires.2)

pub returns-clause-lines : goal.returns-clause-lines
returns-clause-lines c =
    lines-as _ _ _ _ _ _ _ c.opened_at.ensures.lines
    (line-there (due_of c.args.due) c.args.s.now c.args.p c.spaces_end-q.result c.spaces_end-q.ensures.reads)
