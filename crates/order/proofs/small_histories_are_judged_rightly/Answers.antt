use Rattle.order.proofs.small_histories_are_judged_rightly.Goals as goal
use Rattle.order.proofs.Judging.{small_histories_judged}

pub returns : goal.returns
returns c = small_histories_judged
