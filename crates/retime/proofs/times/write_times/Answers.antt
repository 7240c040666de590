-- What the search leaves of `retime::times::write_times`.
use Rattle.std.proofs.Common.{◌∙◌, arith}
use Rattle.retime.proofs.Writing.{times-written}
use Rattle.retime.proofs.times.write_times.Goals as goal

pub returns : goal.returns
returns c =
    let a = c.args in
    times-written a.sheet.now a.place a.times.least a.times.greatest (omega arith) (omega arith) (omega arith)
    (c.copy_from_slice.ensures.after ∙ c.to_be_bytes.ensures) (c.copy_from_slice-2.ensures.after ∙ c.to_be_bytes-2.ensures)
