use Rattle.line.proofs.CollectEndings.{each-collect-ends-by-grant-2n+9}
use Rattle.line.proofs.laws.each_collect_ends_by_grant_2n_plus_9.Goals as goal

pub returns : goal.returns
returns c = each-collect-ends-by-grant-2n+9
