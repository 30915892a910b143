use Rattle.history.proofs.Promised.{calls_meet_the_guards}
use Rattle.history.proofs.calls_meet_the_guards.Goals as goal

pub returns : goal.returns
returns g c = calls_meet_the_guards _
