-- What the search leaves of `scan::waiting::Waiting::keep`.
use Rattle.std.proofs.Common.{◌≡◌, ◌≤◌, length, rules, arith}
use Rattle.scan.specs.Waiting.{waiting}
use Rattle.scan.proofs.WriteLaws.{keeps-beside, keeps-alone}
use Rattle.scan.proofs.waiting.Waiting.keep.Goals as goal
use Rattle.scan.proofs.waiting.Waiting.keep.Goals.{then-self, else-self}

pub returns : goal.returns
unfolding waiting
returns g c =
    let l : length c.args.self.now.codes ≡ g.row.N = search rules in
    let few : c.args.self.now.count ≤ g.row.N = search rules in
    elim c.if-self.branch [
      | then-self w ↦
          rw (w.self-is, w.out-is, w.end-is) (keeps-alone _ _ _ _ l (omega arith) w.if-self.true w.insert-end.ensures.inserts w.insert-end.ensures.ends)
      | else-self w ↦ rw (w.self-is, w.out-is, w.end-is) (keeps-beside _ _ _ _ l (omega arith))
    ]
