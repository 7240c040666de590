-- What the search leaves of `mend::writer::put_exchanged`.
use Rattle.mend.proofs.writer.Laws.{exchange-put}
use Rattle.mend.proofs.writer.put_exchanged.Goals as goal

pub returns : goal.returns
returns c =
    let arg = c.args in
    exchange-put arg.s.now arg.at arg.end arg.low arg.size arg.out.now arg.from c.put_bytes-second.ensures c.put_bytes-third.ensures
    c.put_bytes-fourth.ensures c.put_bytes.ensures
