use Rattle.std.proofs.Common.{refl}
use Rattle.runs.proofs.worked.worked_cases_come_out.Goals as goal

pub returns : goal.returns
returns c = refl
