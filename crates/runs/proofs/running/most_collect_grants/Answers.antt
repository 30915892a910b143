use Rattle.std.proofs.Common.{refl}
use Rattle.runs.specs.Runs.{most_collect_grants}
use Rattle.runs.proofs.running.most_collect_grants.Goals as goal

pub returns : goal.returns
unfolding most_collect_grants
returns c = refl
