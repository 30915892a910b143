use Rattle.order.proofs.guarded_histories_have_a_single_file_order.Goals as goal
use Rattle.order.proofs.Ordered.{guarded_histories_have_order}

pub returns : goal.returns
returns g c = guarded_histories_have_order _
