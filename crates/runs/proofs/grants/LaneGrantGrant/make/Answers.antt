use Rattle.line.specs.Calls.{grants_lane}
use Rattle.runs.proofs.Performing.{ready_left}
use Rattle.runs.proofs.Readiness.{grants_lane_ready}
use Rattle.runs.proofs.grants.LaneGrantGrant.make.Goals as goal

pub returns-clause-ready : goal.returns-clause-ready
returns-clause-ready g c held ready =
    let ws = g.B.Board.words c.args.board.now in
    let ps = c.args.trays.now in
    let core = g.C.AnyCrew.core c.args.crew.now in
    let did = c.grant_lane.ensures.step in
    ready_left held (grants_lane ws ps core c.args.self.lane) _ _ _ did.board did.trays did.crew (grants_lane_ready held c.args.self.lane ws ps core ready)
