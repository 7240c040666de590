-- What the search leaves of `record::act::write_register`.
use Rattle.std.proofs.Common.{set, arith}
use Rattle.record.specs.Replay.{thread_at}
use Rattle.record.specs.declared.replay.RunThread.{RunThread}
use Rattle.record.proofs.replay.Laws.{moved-written}
use Rattle.record.proofs.act.write_register.Goals as goal

pub returns : goal.returns
returns c =
    let a = c.args in
    let th : RunThread = record (thread_at a.x a.v.thread) { regs = set (thread_at a.x a.v.thread).regs a.r a.k } in
    λ z. moved-written z a.x a.v.thread th a.v.tick.0 (omega arith) (c.move_on.ensures z)
