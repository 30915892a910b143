use Rattle.std.proofs.Common.{true, sym, ap}
use Rattle.std.proofs.lemmas.Bool.{lt-ltb}
use Rattle.line.specs.Calls.{collector_grant_tests, refuse}
use Rattle.line.specs.Crew.{shape}
use Rattle.line.proofs.Steps.{collector_does, memory_told}
use Rattle.line.proofs.Tested.{gives_same, passed}
use Rattle.line.proofs.calls.CrewAnyCrew.grant_collector.Goals as goal

pub returns : goal.returns
returns g c =
    let ws = g.B.Board.words c.args.board.now in
    let ps = c.args.trays.now in
    let core = c.args.self.now.core in
    let laid = c.in_ok-ring.ensures in
    let holds = memory_told ws ps core core.shape c.len.result true c.len.ensures c.if-not-held_by.ensures in
    record {
      step = gives_same
          (passed (refuse ws ps core) (collector_grant_tests ws ps core) _ (lt-ltb 0 core.shape.lanes laid.0, (holds, (sym c.if-not-is_under_way.ensures, tt))))
          (collector_does ws ps core _ c.collector_access.result c.perform-word.result c.step_collector.result _ _ _ (ap (shape core.shape.lanes) laid.1)
          c.collector_access.ensures c.perform-word.ensures.read c.perform-word.ensures.board c.perform-word.ensures.trays
          c.step_collector.ensures.answer c.step_collector.ensures.crew);
      stays = c.perform-word.ensures.stays;
    }
