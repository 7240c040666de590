-- What the search leaves of `scan::waiting::Waiting::insert`.
use Rattle.std.proofs.Common.{◌≡◌, refl, sym}
use Rattle.scan.specs.Waiting.{waiting}
use Rattle.scan.proofs.WriteLaws.{inserted_none}
use Rattle.scan.proofs.waiting.Waiting.insert.Goals as goal

pub returns-then-self-eq0-clause-inserts : goal.returns-then-self-eq0-clause-inserts
unfolding waiting
returns-then-self-eq0-clause-inserts g c =
    let arg = c.args in
    sym (inserted_none arg.out.now arg.at arg.end (waiting arg.self.now) c.requires.0 (rw c.if-self-eq0.true refl))
