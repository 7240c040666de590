-- What the search leaves of `retime::back::take_back`.
use Rattle.retimed.proofs.TakeBack.{all_come_back}
use Rattle.retime.proofs.back.take_back.Goals as goal

pub returns-clause-all_come_back : goal.returns-clause-all_come_back
returns-clause-all_come_back c = λ s o cs made. all_come_back s o made
