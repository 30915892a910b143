use Rattle.order.proofs.guarded_histories_balance.Goals as goal
use Rattle.order.proofs.Balance.{guarded_histories_balance}

pub returns : goal.returns
returns g c = guarded_histories_balance _
