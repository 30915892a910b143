use Rattle.line.specs.Calls.{grants_collector}
use Rattle.runs.proofs.Performing.{ready_left}
use Rattle.runs.proofs.Readiness.{grants_collector_ready}
use Rattle.runs.proofs.grants.CollectorGrantGrant.make.Goals as goal

pub returns-clause-ready : goal.returns-clause-ready
returns-clause-ready g c held ready =
    let ws = g.B.Board.words c.args.board.now in
    let ps = c.args.trays.now in
    let core = g.C.AnyCrew.core c.args.crew.now in
    let did = c.grant_collector.ensures.step in
    ready_left held (grants_collector ws ps core) _ _ _ did.board did.trays did.crew (grants_collector_ready held ws ps core ready)
