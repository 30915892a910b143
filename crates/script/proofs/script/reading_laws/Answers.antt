use Rattle.script.proofs.Laws.{drains_on, keeps_calls_before, one_reading, reads_on}
use Rattle.script.proofs.script.reading_laws.Goals as goal

pub returns : goal.returns
returns g c =
    let brought = g.P.Payload.brought in
    record {
      alone = one_reading brought;
      joins = reads_on brought;
      drains = drains_on brought;
      before = keeps_calls_before brought;
    }
