-- What the search leaves of `scan::output::insert`.
use Rattle.std.proofs.Common.{◌≡◌, ◌∙◌, ◌+◌, length, reverse, sym, ap, arith}
use Rattle.std.specs.List.{copy_within}
use Rattle.std.proofs.lemmas.List.{length-reverse}
use borrow.Rule.Slice.PartMut.{put_mid}
use Rattle.scan.proofs.WriteLaws.{inserted_none, inserted_full, inserted_moved}
use Rattle.scan.proofs.output.insert.Goals as goal
use Rattle.scan.proofs.output.insert.Goals.{then-count-gt0+then-end-count, else-count-gt0, else-count-gt0-via-then-count-gt0+else-end-count, else-count-gt0-via-else-count-gt0}

pub returns-clause-inserts : goal.returns-clause-inserts
returns-clause-inserts c =
    let arg = c.args in
    let n : length (reverse arg.codes.now) ≡ length arg.codes.now = length-reverse arg.codes.now in
    elim c.if-count-gt0.branch [
      | then-count-gt0+then-end-count w ↦
          let moved : w.copy_within.new.self ≡ copy_within arg.out.now arg.at arg.end (arg.at + length (reverse arg.codes.now)) = rw n w.copy_within.ensures.after in
          w.out-is
          ∙ ap (put_mid arg.at _ w.copy_within.new.self) (w.reverse.ensures.after ∙ ap reverse w.copy_from_slice.ensures.after)
          ∙ inserted_moved arg.out.now arg.at arg.end _ (reverse arg.codes.now) c.requires.0 (omega arith) (omega arith) moved
      | else-count-gt0 w ↦ w.out-is ∙ sym (elim w.else-count-gt0.branch [
        | else-count-gt0-via-then-count-gt0+else-end-count v ↦ inserted_full arg.out.now arg.at arg.end (reverse arg.codes.now) (omega arith)
        | else-count-gt0-via-else-count-gt0 v ↦ inserted_none arg.out.now arg.at arg.end (reverse arg.codes.now) c.requires.0 (omega arith)
      ])
    ]
